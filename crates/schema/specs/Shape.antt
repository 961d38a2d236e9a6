-- The rules on the shape of a document, each as a test of its tables: keys that are missing or unknown, and
-- values of another kind or out of range.
use Rattle.std.specs.Prelude.{◌≡◌, ℕ, ℤ, pos, negsuc, Bool, true, false, not, ◌&&◌, ◌||◌, if◌then◌else◌, Option, Some, None, is_some, is_none, nat_le, nat_lt}
use Rattle.std.specs.List.{list_any}
use Rattle.std.specs.Option.{option_map_or}
use Rattle.toml.specs.Data.{Data, integer, array, no_items, as_integer, as_bool, as_str, as_array, as_table}
use Rattle.schema.specs.Schema.{key_rules_of}
use Rattle.schema.specs.Tree.{SectionTable, tables_of, value_at, rule_named, keys_of}
use Rattle.schema.specs.declared.schema.Version.{Version}
use Rattle.schema.specs.declared.schema.KeyRule.{KeyRule}
use Rattle.schema.specs.declared.schema.Kind.{Kind}
use Rattle.schema.specs.declared.schema.Kind.TheVariants as kind
use Rattle.schema.specs.declared.schema.Absence.{Absence}
use Rattle.schema.specs.declared.schema.Absence.TheVariants.{Refused, RefusedOver0}
use Rattle.schema.specs.declared.shape.Check.{Check}
use Rattle.schema.specs.declared.shape.Check.TheVariants.{Missing, Unknown, WrongKind, OutOfRange}

-- a whole number over 0
abbrev pub is_over_0 : Option Data → Bool
is_over_0 (Some (integer (pos n))) = nat_lt 0 n
is_over_0 _ = false

-- the table may not lack the key
abbrev pub is_refused : Data → Absence → Bool
is_refused d Refused = true
is_refused d (RefusedOver0 key) = is_over_0 (value_at key d)
is_refused d _ = false

abbrev pub is_empty_list : Data → Bool
is_empty_list (array no_items) = true
is_empty_list _ = false

-- nothing is there; a list that is asked for is there only with an item
abbrev pub is_absent : Kind → Option Data → Bool
is_absent k None = true
is_absent (kind.List s) (Some d) = is_empty_list d
is_absent _ (Some d) = false

-- the key is required and absent
abbrev pub is_missing : Data → KeyRule → Bool
is_missing d row = is_refused d row.absence && is_absent row.kind (value_at row.key d)

-- the value is of another kind; what has to be a table is judged as a part of its own
abbrev pub is_other_kind : Kind → Data → Bool
is_other_kind (kind.Whole least most) d = is_none (as_integer d)
is_other_kind kind.Switch d = is_none (as_bool d)
is_other_kind kind.Text d = is_none (as_str d)
is_other_kind (kind.Table s) d = false
is_other_kind (kind.List s) d = is_none (as_array d)

-- both ends are in the range
abbrev pub is_within : ℕ → ℕ → ℤ → Bool
is_within least most (pos n) = nat_le least n && nat_le n most
is_within least most (negsuc n) = false

-- the value is a whole number outside its range
abbrev pub is_outside : Kind → Data → Bool
is_outside (kind.Whole least most) (integer z) = not (is_within least most z)
is_outside _ d = false

-- the value of a row's key is there and has the fault
abbrev pub has_fault : (Kind → Data → Bool) → Data → KeyRule → Bool
has_fault fault d row = option_map_or (fault row.kind) (value_at row.key d) false

abbrev pub rule_of : Check → ℕ
rule_of Missing = 2
rule_of Unknown = 3
rule_of WrongKind = 4
rule_of OutOfRange = 5

-- what each of the rules 2 to 5 refuses in a part, in a version
unfoldable pub table_breaks : Version → Check → SectionTable → Bool
-- rule 2: a table lacks a required key
table_breaks v Missing p = is_some (as_table p.value) && list_any (is_missing p.value) (key_rules_of v p.section)
-- rule 3: a table has a key that the format doesn't name
table_breaks v Unknown p = list_any (λ key. is_none (rule_named (key_rules_of v p.section) key)) (keys_of p.value)
-- rule 4: the part is no table, or a value in it is of another kind
table_breaks v WrongKind p = is_none (as_table p.value) || list_any (has_fault is_other_kind p.value) (key_rules_of v p.section)
-- rule 5: a whole number is outside its range
table_breaks v OutOfRange p = list_any (has_fault is_outside p.value) (key_rules_of v p.section)

-- a key is missing, or its value is of another kind or outside its range
abbrev pub row_is_broken : Data → KeyRule → Bool
row_is_broken d row = is_missing d row || has_fault (λ k found. is_other_kind k found || is_outside k found) d row

-- the part breaks some rule: it is no table, a key is unknown, or that of a row is broken
unfoldable pub table_is_broken : Version → SectionTable → Bool
table_is_broken v p =
    is_none (as_table p.value)
    || (list_any (λ key. is_none (rule_named (key_rules_of v p.section) key)) (keys_of p.value) || list_any (row_is_broken p.value) (key_rules_of v p.section))

-- some part of the document breaks some rule
unfoldable pub is_broken : Version → Data → Bool
is_broken v tree = list_any (table_is_broken v) (tables_of v tree)

-- some part of the document breaks the rule
unfoldable pub breaks : Version → Check → Data → Bool
breaks v check tree = list_any (table_breaks v check) (tables_of v tree)

-- the document breaks none of the rules on its tables, 2 to 5
pub record KeepsShape (v : Version) (tree : Data) : Type 0 where
  pub missing : breaks v Missing tree ≡ false
  pub unknown : breaks v Unknown tree ≡ false
  pub kinds : breaks v WrongKind tree ≡ false
  pub ranges : breaks v OutOfRange tree ≡ false

-- the least broken of the rules on the tables
unfoldable pub least_broken_of_shape : Version → Data → Option ℕ
least_broken_of_shape v tree =
    if breaks v Missing tree then Some 2
    else if breaks v Unknown tree then Some 3
    else if breaks v WrongKind tree then Some 4
    else if breaks v OutOfRange tree then Some 5
    else None
