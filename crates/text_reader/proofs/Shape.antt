-- The rule that a document's shape breaks is one, and that of what its groups, paths and cuts name.
use Rattle.std.proofs.Common.{◌≡◌, ◌≤◌, ℕ, ◌-◌, ◌^◌, min, Bool, true, false, ◌&&◌, is_ok, List, nat_le, Option, Some, None, Result, ap, sym, subst, ◌∙◌, codes, cond}
use Rattle.std.specs.Option.{option_and_then}
use Rattle.toml.specs.Data.{Data, array, boolean, datetime, float, get, integer, string, table}
use Rattle.schema.specs.Schema.{spelling_of}
use Rattle.schema.specs.Tree.{items_at, items_of}
use Rattle.schema.specs.Values.{text_if}
use Rattle.schema.specs.declared.schema.Absence.{Absence}
use Rattle.schema.specs.declared.schema.Absence.TheVariants.{Refused, RefusedOver0, Default, Off, Optional}
use Rattle.schema.specs.declared.schema.FormatKey.TheVariants as key
use Rattle.scenario.specs.Setup.{Group}
use Rattle.scenario_reader.specs.Rules.{names_no_group}
use Rattle.written_schema.specs.Lowest.{no_rule, rule_if}
use Rattle.written_schema.specs.References.{contact_rule, IsContactRule, IsCutRule, IsPathRule, IsReferenceRule, IsTimeoutRule}
use Rattle.written_schema.specs.Rows.{key_text, rows_of}
use Rattle.written_schema.specs.Shape.{has_no_item, has_unknown_key, IsBelowRule, IsInnerRule, IsKeyRule, IsRowRule, IsShapeRule, IsTableRule, IsThereRule, Requires, SaysOver0}
use Rattle.written_schema.specs.Values.{said_rule, IsSaidRule, IsValueRule}
use Rattle.written_schema.specs.declared.rows.WrittenKind.{WrittenKind}
use Rattle.written_schema.specs.declared.rows.WrittenKind.TheVariants.{Ticks, Share, Tick, Whole, Switch, Text, Table, List as ListOf, Script}
use Rattle.written_schema.specs.declared.rows.WrittenRow.{WrittenRow}
use Rattle.written_schema.specs.declared.rows.WrittenSection.{WrittenSection}
use Rattle.written_schema.specs.declared.rows.WrittenSection.TheVariants.{Top}
use Rattle.written_values.specs.Values.{SaysShareIn, SaysTickOf, SaysTicksIn}
use Rattle.written_values.specs.declared.fault.ValueFault.{ValueFault}
use Rattle.text_reader.proofs.Numbers.{one_count_at, one_lowest, one_said, one_said_share, one_said_tick}

one_said_rule : (Says : Result ℕ ValueFault → Type 0) → ((a b : Result ℕ ValueFault) → Says a → Says b → a ≡ b) → (a b : ℕ) → IsSaidRule Says a → IsSaidRule Says b → a ≡ b
one_said_rule Says one a b first second = first.2 ∙ ap said_rule (one first.0 second.0 first.1 second.1) ∙ sym second.2

module _ (tick : ℕ) (some : 1 ≤ tick) where
  -- ---- keys

  one_over : (d : Option Data) (a b : Bool) → SaysOver0 tick d a → SaysOver0 tick d b → a ≡ b
  one_over None a b first second = first ∙ sym second
  one_over (Some d) a b first second =
      first.2 ∙ ap is_ok (one_said tick 1 (2 ^ 63 - 1) d first.0 second.0 some first.1 second.1) ∙ sym second.2

  one_required : (d : Data) (absence : Absence) (a b : Bool) → Requires tick d absence a → Requires tick d absence b → a ≡ b
  one_required d Refused a b first second = first ∙ sym second
  one_required d (RefusedOver0 other) a b first second = one_over (get (spelling_of other) d) a b first second
  one_required d (Default n) a b first second = first ∙ sym second
  one_required d Off a b first second = first ∙ sym second
  one_required d Optional a b first second = first ∙ sym second

  one_value : (kind : WrittenKind) (d : Data) (a b : ℕ) → IsValueRule tick kind d a → IsValueRule tick kind d b → a ≡ b
  one_value (Ticks least most) d a b first second =
      one_said_rule (SaysTicksIn tick least most d) (λ x y p q. one_said tick least most d x y some p q) a b first second
  one_value Share d a b first second = one_said_rule (SaysShareIn d) (one_said_share d) a b first second
  one_value Tick d a b first second = one_said_rule (SaysTickOf d) (one_said_tick d) a b first second
  one_value (Whole least most) d a b first second = first ∙ sym second
  one_value Switch d a b first second = first ∙ sym second
  one_value Text d a b first second = first ∙ sym second
  one_value (Table section) d a b first second = first ∙ sym second
  one_value (ListOf section) d a b first second = first ∙ sym second
  one_value Script d a b first second = first ∙ sym second

  one_there : (lacking : Bool) (kind : WrittenKind) (d : Data) (a b : ℕ) → IsThereRule tick lacking kind d a → IsThereRule tick lacking kind d b → a ≡ b
  one_there true kind d a b first second = first ∙ sym second
  one_there false kind d a b first second = one_value kind d a b first second

  one_key : (required : Bool) (kind : WrittenKind) (d : Option Data) (a b : ℕ) → IsKeyRule tick required kind d a → IsKeyRule tick required kind d b → a ≡ b
  one_key required kind None a b first second = first ∙ sym second
  one_key required kind (Some d) a b first second = one_there (required && has_no_item kind d) kind d a b first second

  one_row : (d : Data) (row : WrittenRow) (a b : ℕ) → IsRowRule tick d row a → IsRowRule tick d row b → a ≡ b
  one_row d row a b first second =
      let same : second.0 ≡ first.0 = one_required d row.absence second.0 first.0 second.1 first.1 in
      one_key first.0 row.kind (get (key_text row.key) d) a b first.2
      (subst (λ (required : Bool). IsKeyRule tick required row.kind (get (key_text row.key) d) b) same second.2)

  -- ---- tables

  one_table : (section : WrittenSection) (d : Data) (a b : ℕ) → IsTableRule tick section d a → IsTableRule tick section d b → a ≡ b
  one_table section (table ms) a b first second =
      let same : first.0 ≡ second.0 = one_lowest (IsRowRule tick (table ms)) (one_row (table ms)) no_rule (rows_of section) first.0 second.0 first.1 second.1 in
      first.2 ∙ ap (λ (keys : ℕ). min (rule_if (has_unknown_key (rows_of section) (table ms)) 3) keys) same ∙ sym second.2
  one_table section (string word) a b first second = first ∙ sym second
  one_table section (integer z) a b first second = first ∙ sym second
  one_table section (float x) a b first second = first ∙ sym second
  one_table section (boolean on) a b first second = first ∙ sym second
  one_table section (datetime dt) a b first second = first ∙ sym second
  one_table section (array ds) a b first second = first ∙ sym second

  one_inner : (kind : WrittenKind) (d : Option Data) (a b : ℕ) → IsInnerRule tick kind d a → IsInnerRule tick kind d b → a ≡ b
  one_inner (Table section) (Some d) a b first second = one_table section d a b first second
  one_inner (ListOf section) (Some d) a b first second = one_lowest (IsTableRule tick section) (one_table section) no_rule (items_of d) a b first second
  one_inner (Table section) None a b first second = first ∙ sym second
  one_inner (ListOf section) None a b first second = first ∙ sym second
  one_inner (Ticks least most) d a b first second = first ∙ sym second
  one_inner Share d a b first second = first ∙ sym second
  one_inner Tick d a b first second = first ∙ sym second
  one_inner (Whole least most) d a b first second = first ∙ sym second
  one_inner Switch d a b first second = first ∙ sym second
  one_inner Text d a b first second = first ∙ sym second
  one_inner Script d a b first second = first ∙ sym second

  one_below : (d : Data) (row : WrittenRow) (a b : ℕ) → IsBelowRule tick d row a → IsBelowRule tick d row b → a ≡ b
  one_below d row a b first second = one_inner row.kind (get (key_text row.key) d) a b first second

  pub one_shape : (d : Data) (a b : ℕ) → IsShapeRule tick d a → IsShapeRule tick d b → a ≡ b
  one_shape d a b first second =
      let top = one_table Top d first.top second.top first.of_top second.of_top in
      let below = one_lowest (IsBelowRule tick d) (one_below d) no_rule (rows_of Top) first.below second.below first.of_below second.of_below in
      first.lowest ∙ (λ i. min (top i) (below i)) ∙ sym second.lowest

  -- ---- references

  one_contact : (roster : List Group) (d : Data) (a b : ℕ) → IsContactRule tick roster d a → IsContactRule tick roster d b → a ≡ b
  one_contact roster d a b first second =
      let same : first.0 ≡ second.0 = one_count_at tick 0 (2 ^ 40) (get (codes "start") d) first.0 second.0 some first.1 second.1 in
      first.2 ∙ ap (λ (start : ℕ). contact_rule roster start (text_if key.Contact d)) same ∙ sym second.2

  one_path : (roster : List Group) (d : Data) (a b : ℕ) → IsPathRule roster d a → IsPathRule roster d b → a ≡ b
  one_path roster d a b first second = first ∙ sym second

  one_cut : (roster : List Group) (d : Data) (a b : ℕ) → IsCutRule tick roster d a → IsCutRule tick roster d b → a ≡ b
  one_cut roster d a b first second =
      let at : first.0 ≡ second.0 = one_count_at tick 0 (2 ^ 40) (get (codes "at") d) first.0 second.0 some first.2 second.2 in
      let until : first.1 ≡ second.1 = one_count_at tick 0 (2 ^ 40) (get (codes "until") d) first.1 second.1 some first.3 second.3 in
      first.4 ∙ (λ i. cond (names_no_group roster d) 7 (rule_if (nat_le (until i) (at i)) 9)) ∙ sym second.4

  one_timeout : (swim : Option Data) (a b : ℕ) → IsTimeoutRule tick swim a → IsTimeoutRule tick swim b → a ≡ b
  one_timeout swim a b first second =
      let period : first.0 ≡ second.0 = one_count_at tick 2 (2 ^ 24) (option_and_then (get (codes "period")) swim) first.0 second.0 some first.2 second.2 in
      let timeout : first.1 ≡ second.1 = one_count_at tick 1 (2 ^ 24) (option_and_then (get (codes "timeout")) swim) first.1 second.1 some first.3 second.3 in
      first.4 ∙ (λ i. rule_if (nat_le (period i) (timeout i)) 9) ∙ sym second.4

  pub one_reference : (roster : List Group) (d : Data) (a b : ℕ) → IsReferenceRule tick roster d a → IsReferenceRule tick roster d b → a ≡ b
  one_reference roster d a b first second =
      let contacts = one_lowest (IsContactRule tick roster) (one_contact roster) no_rule (items_at key.Group d) first.contacts second.contacts first.of_contacts second.of_contacts in
      let paths = one_lowest (IsPathRule roster) (one_path roster) no_rule (items_at key.Path d) first.paths second.paths first.of_paths second.of_paths in
      let cuts = one_lowest (IsCutRule tick roster) (one_cut roster) no_rule (items_at key.Cut d) first.cuts second.cuts first.of_cuts second.of_cuts in
      let timeout = one_timeout (get (codes "swim") d) first.timeout second.timeout first.of_timeout second.of_timeout in
      first.lowest ∙ (λ i. min (min (min (contacts i) (paths i)) (cuts i)) (timeout i)) ∙ sym second.lowest
