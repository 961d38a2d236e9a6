-- Where no part of a document is broken, it keeps each of the rules on its tables.
use Rattle.std.proofs.Common.{◌≡◌, List, [], ◌∷◌, Bool, ◌||◌, false, is_none, is_some, Option, Some, None, refl}
use Rattle.std.specs.List.{list_any}
use Rattle.std.specs.Option.{option_map_or}
use Rattle.std.proofs.lemmas.Bool.{or_parts, or_from, and_right}
use Rattle.toml.specs.Data.{Data, as_table}
use Rattle.schema.specs.Schema.{key_rules_of}
use Rattle.schema.specs.Tree.{SectionTable, tables_of, value_at, rule_named, keys_of}
use Rattle.schema.specs.Shape.{is_missing, is_other_kind, is_outside, has_fault, row_is_broken, table_is_broken, is_broken, table_breaks, breaks, KeepsShape}
use Rattle.schema.specs.declared.schema.KeyRule.{KeyRule}
use Rattle.schema.specs.declared.schema.Version.{Version}
use Rattle.schema.specs.declared.shape.Check.{Check}
use Rattle.schema.specs.declared.shape.Check.TheVariants.{Missing, Unknown, WrongKind, OutOfRange}

-- what no element has, none has that implies it
none-of : {A : Type 0} (f g : A → Bool) → ((x : A) → f x ≡ false → g x ≡ false) → (xs : List A) → list_any f xs ≡ false → list_any g xs ≡ false
none-of f g each [] none = refl
none-of f g each (x ∷ xs) none =
    let parts = or_parts (f x) (list_any f xs) none in or_from (g x) (list_any g xs) (each x parts.0) (none-of f g each xs parts.1)

-- what is found has neither fault
found_parts : (p q : Data → Bool) (found : Option Data) → option_map_or (λ d. p d || q d) found false ≡ false → (option_map_or p found false ≡ false) × (option_map_or q found false ≡ false)
found_parts p q None none = (refl, refl)
found_parts p q (Some d) none = or_parts (p d) (q d) none

module _ (d : Data) (row : KeyRule) (kept : row_is_broken d row ≡ false) where
  parts : (is_missing d row ≡ false) × (has_fault (λ k found. is_other_kind k found || is_outside k found) d row ≡ false)
  parts = or_parts (is_missing d row) (has_fault (λ k found. is_other_kind k found || is_outside k found) d row) kept

  not_missing : is_missing d row ≡ false
  not_missing = parts.0

  found_kept : (has_fault is_other_kind d row ≡ false) × (has_fault is_outside d row ≡ false)
  found_kept = found_parts (is_other_kind row.kind) (is_outside row.kind) (value_at row.key d) parts.1

-- a part that isn't broken breaks no rule
table_kept : (v : Version) (check : Check) (p : SectionTable) → table_is_broken v p ≡ false → table_breaks v check p ≡ false
unfolding table_is_broken table_breaks
table_kept v check p kept = by check
  where
    rows : List KeyRule
    rows = key_rules_of v p.section

    unknown : Bool
    unknown = list_any (λ key. is_none (rule_named rows key)) (keys_of p.value)

    both : (is_none (as_table p.value) ≡ false) × ((unknown || list_any (row_is_broken p.value) rows) ≡ false)
    both = or_parts (is_none (as_table p.value)) (unknown || list_any (row_is_broken p.value) rows) kept

    keys : (unknown ≡ false) × (list_any (row_is_broken p.value) rows ≡ false)
    keys = or_parts unknown (list_any (row_is_broken p.value) rows) both.1

    of_rows : (test : KeyRule → Bool) → ((row : KeyRule) → row_is_broken p.value row ≡ false → test row ≡ false) → list_any test rows ≡ false
    of_rows test each = none-of (row_is_broken p.value) test each rows keys.1

    by : (check : Check) → table_breaks v check p ≡ false
    by Missing = and_right (is_some (as_table p.value)) _ (of_rows (is_missing p.value) (not_missing p.value))
    by Unknown = keys.0
    by WrongKind = or_from _ _ both.0 (of_rows (has_fault is_other_kind p.value) (λ row h. (found_kept p.value row h).0))
    by OutOfRange = of_rows (has_fault is_outside p.value) (λ row h. (found_kept p.value row h).1)

-- a document that isn't broken breaks no rule
pub none_broken : (v : Version) (check : Check) (tree : Data) → is_broken v tree ≡ false → breaks v check tree ≡ false
unfolding is_broken breaks
none_broken v check tree kept = none-of (table_is_broken v) (table_breaks v check) (table_kept v check) (tables_of v tree) kept

pub shape_kept : (v : Version) (tree : Data) → is_broken v tree ≡ false → KeepsShape v tree
shape_kept v tree kept = record {
  missing = none_broken v Missing tree kept;
  unknown = none_broken v Unknown tree kept;
  kinds = none_broken v WrongKind tree kept;
  ranges = none_broken v OutOfRange tree kept;
}
