-- Which of the rules 2 to 5 a document of version 4 breaks, outside its six lists about members.
use Rattle.std.specs.Prelude.{◌≡◌, ℕ, ◌-◌, ◌^◌, min, Bool, true, false, not, ◌&&◌, is_ok, List, bytes_eq, Option, Some, None, Result}
use Rattle.std.specs.List.{list_any}
use Rattle.toml.specs.Data.{Data, get, table}
use Rattle.schema.specs.Schema.{spelling_of}
use Rattle.schema.specs.Shape.{is_empty_list}
use Rattle.schema.specs.Tree.{items_of, keys_of}
use Rattle.schema.specs.declared.schema.Absence.{Absence}
use Rattle.schema.specs.declared.schema.Absence.TheVariants.{Refused, RefusedOver0}
use Rattle.written_values.specs.Values.{SaysTicksIn}
use Rattle.written_values.specs.declared.fault.ValueFault.{ValueFault}
use Rattle.written_schema.specs.Lowest.{no_rule, rule_if, Lowest}
use Rattle.written_schema.specs.Rows.{key_text, rows_of}
use Rattle.written_schema.specs.Values.{IsValueRule}
use Rattle.written_schema.specs.declared.rows.WrittenKind.{WrittenKind}
use Rattle.written_schema.specs.declared.rows.WrittenKind.TheVariants.{Table, List as ListOf}
use Rattle.written_schema.specs.declared.rows.WrittenRow.{WrittenRow}
use Rattle.written_schema.specs.declared.rows.WrittenSection.{WrittenSection}
use Rattle.written_schema.specs.declared.rows.WrittenSection.TheVariants.{Top}

-- ---- one key

-- whether a value says a number of ticks over 0
abbrev pub SaysOver0 : (tick : ℕ) → Option Data → Bool → Type 0
SaysOver0 tick None over = over ≡ false
SaysOver0 tick (Some d) over = (said : Result ℕ ValueFault) × SaysTicksIn tick 1 (2 ^ 63 - 1) d said × (over ≡ is_ok said)

-- whether a table may not lack a key
abbrev pub Requires : (tick : ℕ) → Data → Absence → Bool → Type 0
Requires tick d Refused required = required ≡ true
Requires tick d (RefusedOver0 other) required = SaysOver0 tick (get (spelling_of other) d) required
Requires tick d _ required = required ≡ false

-- a list that is required is there only with an item
abbrev pub has_no_item : WrittenKind → Data → Bool
has_no_item (ListOf section) d = is_empty_list d
has_no_item _ d = false

abbrev pub IsThereRule : (tick : ℕ) → (lacking : Bool) → WrittenKind → Data → (rule : ℕ) → Type 0
IsThereRule tick true kind d rule = rule ≡ 2
IsThereRule tick false kind d rule = IsValueRule tick kind d rule

-- rule 2 where a key is required and isn't there; else its value's rule
abbrev pub IsKeyRule : (tick : ℕ) → (required : Bool) → WrittenKind → Option Data → (rule : ℕ) → Type 0
IsKeyRule tick required kind None rule = rule ≡ rule_if required 2
IsKeyRule tick required kind (Some d) rule = IsThereRule tick (required && has_no_item kind d) kind d rule

abbrev pub IsRowRule : (tick : ℕ) → Data → WrittenRow → (rule : ℕ) → Type 0
IsRowRule tick d row rule = (required : Bool) × Requires tick d row.absence required × IsKeyRule tick required row.kind (get (key_text row.key) d) rule

-- ---- a table

-- one of the rows is that of the key
abbrev pub is_named : List WrittenRow → List ℕ → Bool
is_named rows key = list_any (λ row. bytes_eq (key_text row.key) key) rows

abbrev pub has_unknown_key : List WrittenRow → Data → Bool
has_unknown_key rows d = list_any (λ key. not (is_named rows key)) (keys_of d)

-- rule 3 where it has a key that the format doesn't name, and the rules of its keys; rule 4 where it is no table
abbrev pub IsTableRule : (tick : ℕ) → WrittenSection → Data → (rule : ℕ) → Type 0
IsTableRule tick section (table ms) rule =
    (keys : ℕ) × Lowest (IsRowRule tick (table ms)) (rows_of section) keys × (rule ≡ min (rule_if (has_unknown_key (rows_of section) (table ms)) 3) keys)
IsTableRule tick section _ rule = rule ≡ 4

-- ---- the document

-- what has to be a table because of its key's kind: the key's value, or each item of its list
abbrev pub IsInnerRule : (tick : ℕ) → WrittenKind → Option Data → (rule : ℕ) → Type 0
IsInnerRule tick (Table section) (Some d) rule = IsTableRule tick section d rule
IsInnerRule tick (ListOf section) (Some d) rule = Lowest (IsTableRule tick section) (items_of d) rule
IsInnerRule tick _ _ rule = rule ≡ no_rule

abbrev pub IsBelowRule : (tick : ℕ) → Data → WrittenRow → (rule : ℕ) → Type 0
IsBelowRule tick d row rule = IsInnerRule tick row.kind (get (key_text row.key) d) rule

-- the lowest of rules 2 to 5 that the whole text, its tables and the items of its lists break; a tick has so many microseconds
pub record IsShapeRule (tick : ℕ) (d : Data) (rule : ℕ) : Type 0 where
  pub top : ℕ
  pub below : ℕ
  pub of_top : IsTableRule tick Top d top
  pub of_below : Lowest (IsBelowRule tick d) (rows_of Top) below
  pub lowest : rule ≡ min top below
