-- A document that is refused breaks one of the rules 2 to 10.
use Rattle.std.proofs.Common.{◌≡◌, ◌≢◌, ◌≤◌, ℕ, min, Bool, true, false, ◌&&◌, List, [], ◌∷◌, nat_eq, nat_le, nat_lt, length, map, Option, Some, None, Result, Ok, Err, refl, sym, subst, cond, is_none, inl, inr, arith}
use Rattle.std.specs.List.{fold}
use Rattle.std.specs.Option.{option_or}
use Rattle.std.proofs.lemmas.Bool.{cases_lt}
use Rattle.std.proofs.lemmas.Bool.Decides.{nat_tests}
use Rattle.toml.specs.Data.{Data, array, boolean, datetime, float, get, integer, string, table, as_array, as_bool, as_integer, as_str}
use Rattle.schema.specs.Shape.{is_outside}
use Rattle.schema.specs.Tree.{items_at, items_of}
use Rattle.schema.specs.Values.{text_if}
use Rattle.schema.specs.declared.schema.FormatKey.TheVariants as key
use Rattle.schema.specs.declared.schema.Kind.TheVariants as kind
use Rattle.scenario.specs.Setup.{Group}
use Rattle.scenario_reader.specs.Reading.{member_named}
use Rattle.scenario_reader.specs.Rules.{names_no_group}
use Rattle.plain_entries.specs.Entries.{start_in}
use Rattle.plain_entries.specs.Script.{plain_of}
use Rattle.plain_entries.specs.declared.script.Script.{Script}
use Rattle.script_draws.specs.Turns.{text_words}
use Rattle.expansion.specs.Late.{has_late}
use Rattle.expansion.specs.Turns.{comes_too_often}
use Rattle.expansion.specs.Verdict.{script_rule}
use Rattle.plain_entries.specs.Script.{entries_made, most_made}
use Rattle.written_entries.specs.Bad.{breaks_entries}
use Rattle.written_entries.specs.declared.keys.ScriptList.{ScriptList}
use Rattle.script_reader.specs.Lists.{kind_rule, list_rule, twice_rule, script_rule as lists_rule}
use Rattle.script_reader.specs.Rules.{item_of, item_rule, items_rule}
use Rattle.script_reader.specs.Script.{text_rule, Breaks}
use Rattle.script_reader.specs.declared.item.WrittenItem.{WrittenItem}
use Rattle.script_reader.specs.declared.lists.WrittenList.{WrittenList}
use Rattle.script_reader.specs.declared.lists.WrittenScript.{WrittenScript}
use Rattle.script_reader.specs.declared.numbers.EntryNumbers.{EntryNumbers}
use Rattle.written_names.specs.Names.{breaks_names}
use Rattle.written_names.specs.Roster.{group_of}
use Rattle.written_names.specs.declared.roster.WrittenGroup.{WrittenGroup}
use Rattle.written_schema.specs.Lowest.{no_rule, rule_if, LowestFrom}
use Rattle.written_schema.specs.References.{asked_rule, contact_rule, IsContactRule, IsCutRule, IsPathRule, IsReferenceRule}
use Rattle.written_schema.specs.Rows.{key_text, rows_of}
use Rattle.written_schema.specs.Shape.{has_no_item, has_unknown_key, IsBelowRule, IsInnerRule, IsKeyRule, IsRowRule, IsShapeRule, IsTableRule, IsThereRule}
use Rattle.written_schema.specs.Values.{said_rule, whole_rule, IsValueRule}
use Rattle.written_schema.specs.declared.rows.WrittenKind.{WrittenKind}
use Rattle.written_schema.specs.declared.rows.WrittenKind.TheVariants.{Ticks, Share, Tick, Whole, Switch, Text, Table, List as ListOf, Script as OfScript}
use Rattle.written_schema.specs.declared.rows.WrittenRow.{WrittenRow}
use Rattle.written_schema.specs.declared.rows.WrittenSection.{WrittenSection}
use Rattle.written_schema.specs.declared.rows.WrittenSection.TheVariants.{Top}
use Rattle.written_values.specs.declared.fault.ValueFault.{ValueFault}
use Rattle.written_values.specs.declared.fault.ValueFault.TheVariants.{WrongKind, OutOfRange}
use Rattle.expanded_text.specs.Rule.{rule_or_none, seed_in, starts_of, IsDocumentRule, IsNamedRule, IsRuleAfter, IsRuleOfNames, IsWrittenRule}

-- one of the rules 2 to 10, or none
abbrev IsOne : ℕ → Type 0
IsOne rule = (1 ≤ rule) × (rule ≢ no_rule → rule ≤ 11)

of_number : (rule : ℕ) → 1 ≤ rule → rule ≤ 11 → IsOne rule
of_number rule some few = (some, λ other. few)

none_is : IsOne 255
none_is = (omega arith, λ other. absurd (other refl))

of_min : (a b : ℕ) → IsOne a → IsOne b → IsOne (min a b)
of_min a b first second =
    elim (cases_lt a b) [
      | inl low ↦ (let same : min a b ≡ a = grind (arith, nat_tests) in subst IsOne (sym same) first)
      | inr high ↦ (let same : min a b ≡ b = grind (arith, nat_tests) in subst IsOne (sym same) second)
    ]

of_test : (test : Bool) (a b : ℕ) → IsOne a → IsOne b → IsOne (cond test a b)
of_test true a b first second = first
of_test false a b first second = second

of_if : (test : Bool) (rule : ℕ) → 1 ≤ rule → rule ≤ 11 → IsOne (rule_if test rule)
of_if test rule some few = of_test test rule no_rule (of_number rule some few) none_is

so : (a b : ℕ) → a ≡ b → IsOne b → IsOne a
so a b same is = subst IsOne (sym same) is

of_lowest : {A : Type 0} (Breaks : A → ℕ → Type 0) → ((x : A) (n : ℕ) → Breaks x n → IsOne n) → (low : ℕ) (xs : List A) (rule : ℕ) → IsOne low → LowestFrom Breaks low xs rule → IsOne rule
of_lowest Breaks each low [] rule is broken = so rule low broken is
of_lowest Breaks each low (x ∷ xs) rule is broken = of_lowest Breaks each (min low broken.0) xs rule (of_min low broken.0 is (each x broken.0 broken.1)) broken.2

-- ---- the shape

of_said : (said : Result ℕ ValueFault) → IsOne (said_rule said)
of_said (Ok number) = none_is
of_said (Err WrongKind) = of_number 4 (omega arith) (omega arith)
of_said (Err OutOfRange) = of_number 5 (omega arith) (omega arith)

module _ (tick : ℕ) where
  of_value : (kind : WrittenKind) (d : Data) (rule : ℕ) → IsValueRule tick kind d rule → IsOne rule
  of_value (Ticks least most) d rule is = so rule (said_rule is.0) is.2 (of_said is.0)
  of_value Share d rule is = so rule (said_rule is.0) is.2 (of_said is.0)
  of_value Tick d rule is = so rule (said_rule is.0) is.2 (of_said is.0)
  of_value (Whole least most) d rule is =
      so rule (whole_rule least most d) is
      (of_test (is_none (as_integer d)) 4 (rule_if (is_outside (kind.Whole least most) d) 5) (of_number 4 (omega arith) (omega arith))
      (of_if (is_outside (kind.Whole least most) d) 5 (omega arith) (omega arith)))
  of_value Switch d rule is = so rule (rule_if (is_none (as_bool d)) 4) is (of_if (is_none (as_bool d)) 4 (omega arith) (omega arith))
  of_value Text d rule is = so rule (rule_if (is_none (as_str d)) 4) is (of_if (is_none (as_str d)) 4 (omega arith) (omega arith))
  of_value (Table section) d rule is = so rule no_rule is none_is
  of_value (ListOf section) d rule is = so rule (rule_if (is_none (as_array d)) 4) is (of_if (is_none (as_array d)) 4 (omega arith) (omega arith))
  of_value OfScript d rule is = so rule no_rule is none_is

  of_there : (lacking : Bool) (kind : WrittenKind) (d : Data) (rule : ℕ) → IsThereRule tick lacking kind d rule → IsOne rule
  of_there true kind d rule is = so rule 2 is (of_number 2 (omega arith) (omega arith))
  of_there false kind d rule is = of_value kind d rule is

  of_key : (required : Bool) (kind : WrittenKind) (d : Option Data) (rule : ℕ) → IsKeyRule tick required kind d rule → IsOne rule
  of_key required kind None rule is = so rule (rule_if required 2) is (of_if required 2 (omega arith) (omega arith))
  of_key required kind (Some d) rule is = of_there (required && has_no_item kind d) kind d rule is

  of_row : (d : Data) (row : WrittenRow) (rule : ℕ) → IsRowRule tick d row rule → IsOne rule
  of_row d row rule is = of_key is.0 row.kind (get (key_text row.key) d) rule is.2

  of_table : (section : WrittenSection) (d : Data) (rule : ℕ) → IsTableRule tick section d rule → IsOne rule
  of_table section (table ms) rule is =
      so rule (min (rule_if (has_unknown_key (rows_of section) (table ms)) 3) is.0) is.2
      (of_min (rule_if (has_unknown_key (rows_of section) (table ms)) 3) is.0 (of_if (has_unknown_key (rows_of section) (table ms)) 3 (omega arith) (omega arith))
      (of_lowest (IsRowRule tick (table ms)) (of_row (table ms)) no_rule (rows_of section) is.0 none_is is.1))
  of_table section (string word) rule is = so rule 4 is (of_number 4 (omega arith) (omega arith))
  of_table section (integer z) rule is = so rule 4 is (of_number 4 (omega arith) (omega arith))
  of_table section (float x) rule is = so rule 4 is (of_number 4 (omega arith) (omega arith))
  of_table section (boolean on) rule is = so rule 4 is (of_number 4 (omega arith) (omega arith))
  of_table section (datetime dt) rule is = so rule 4 is (of_number 4 (omega arith) (omega arith))
  of_table section (array ds) rule is = so rule 4 is (of_number 4 (omega arith) (omega arith))

  of_inner : (kind : WrittenKind) (d : Option Data) (rule : ℕ) → IsInnerRule tick kind d rule → IsOne rule
  of_inner (Table section) (Some d) rule is = of_table section d rule is
  of_inner (ListOf section) (Some d) rule is = of_lowest (IsTableRule tick section) (of_table section) no_rule (items_of d) rule none_is is
  of_inner (Table section) None rule is = so rule no_rule is none_is
  of_inner (ListOf section) None rule is = so rule no_rule is none_is
  of_inner (Ticks least most) d rule is = so rule no_rule is none_is
  of_inner Share d rule is = so rule no_rule is none_is
  of_inner Tick d rule is = so rule no_rule is none_is
  of_inner (Whole least most) d rule is = so rule no_rule is none_is
  of_inner Switch d rule is = so rule no_rule is none_is
  of_inner Text d rule is = so rule no_rule is none_is
  of_inner OfScript d rule is = so rule no_rule is none_is

  of_below : (d : Data) (row : WrittenRow) (rule : ℕ) → IsBelowRule tick d row rule → IsOne rule
  of_below d row rule is = of_inner row.kind (get (key_text row.key) d) rule is

  of_shape : (d : Data) (rule : ℕ) → IsShapeRule tick d rule → IsOne rule
  of_shape d rule is =
      so rule (min is.top is.below) is.lowest
      (of_min is.top is.below (of_table Top d is.top is.of_top) (of_lowest (IsBelowRule tick d) (of_below d) no_rule (rows_of Top) is.below none_is is.of_below))

  -- ---- references

  of_asked : (roster : List Group) (start : ℕ) (member : Option ℕ) → IsOne (asked_rule roster start member)
  of_asked roster start None = of_number 7 (omega arith) (omega arith)
  of_asked roster start (Some member) = of_if _ 9 (omega arith) (omega arith)

  of_contact_name : (roster : List Group) (start : ℕ) (name : Option (List ℕ)) → IsOne (contact_rule roster start name)
  of_contact_name roster start None = none_is
  of_contact_name roster start (Some name) = of_asked roster start (member_named roster name)

  of_contact : (roster : List Group) (d : Data) (rule : ℕ) → IsContactRule tick roster d rule → IsOne rule
  of_contact roster d rule is = so rule (contact_rule roster is.0 (text_if key.Contact d)) is.2 (of_contact_name roster is.0 (text_if key.Contact d))

  of_path : (roster : List Group) (d : Data) (rule : ℕ) → IsPathRule roster d rule → IsOne rule
  of_path roster d rule is = so rule (rule_if (names_no_group roster d) 7) is (of_if (names_no_group roster d) 7 (omega arith) (omega arith))

  of_cut : (roster : List Group) (d : Data) (rule : ℕ) → IsCutRule tick roster d rule → IsOne rule
  of_cut roster d rule is =
      so rule (cond (names_no_group roster d) 7 (rule_if (nat_le is.1 is.0) 9)) is.4
      (of_test (names_no_group roster d) 7 (rule_if (nat_le is.1 is.0) 9) (of_number 7 (omega arith) (omega arith)) (of_if (nat_le is.1 is.0) 9 (omega arith) (omega arith)))

  of_reference : (roster : List Group) (d : Data) (rule : ℕ) → IsReferenceRule tick roster d rule → IsOne rule
  of_reference roster d rule is =
      let contacts = of_lowest (IsContactRule tick roster) (of_contact roster) no_rule (items_at key.Group d) is.contacts none_is is.of_contacts in
      let paths = of_lowest (IsPathRule roster) (of_path roster) no_rule (items_at key.Path d) is.paths none_is is.of_paths in
      let cuts = of_lowest (IsCutRule tick roster) (of_cut roster) no_rule (items_at key.Cut d) is.cuts none_is is.of_cuts in
      let timeout = so is.timeout _ is.of_timeout.4 (of_if (nat_le is.of_timeout.0 is.of_timeout.1) 9 (omega arith) (omega arith)) in
      so rule (min (min (min is.contacts is.paths) is.cuts) is.timeout) is.lowest
      (of_min (min (min is.contacts is.paths) is.cuts) is.timeout (of_min (min is.contacts is.paths) is.cuts (of_min is.contacts is.paths contacts paths) cuts) timeout)

-- ---- the six lists

of_item : (list : ScriptList) (roster : List Group) (d : Data) (numbers : EntryNumbers) → IsOne (item_rule list roster d numbers)
unfolding item_rule
of_item list roster d numbers =
    of_test _ 2 _ (of_number 2 (omega arith) (omega arith)) (of_test _ 3 _ (of_number 3 (omega arith) (omega arith))
    (of_test _ 4 _ (of_number 4 (omega arith) (omega arith)) (of_test _ 5 _ (of_number 5 (omega arith) (omega arith))
    (of_test _ 6 _ (of_number 6 (omega arith) (omega arith)) (of_test _ 7 _ (of_number 7 (omega arith) (omega arith))
    (of_test _ 9 no_rule (of_number 9 (omega arith) (omega arith)) none_is))))))

of_items : (list : ScriptList) (roster : List Group) (low : ℕ) (items : List WrittenItem) → IsOne low
    → IsOne (fold (λ (rule : ℕ) (it : WrittenItem). min rule (item_rule list roster (item_of it) it.numbers)) low items)
of_items list roster low [] is = is
of_items list roster low (it ∷ items) is =
    of_items list roster (min low (item_rule list roster (item_of it) it.numbers)) items
    (of_min low (item_rule list roster (item_of it) it.numbers) is (of_item list roster (item_of it) it.numbers))

of_list : (roster : List Group) (made : WrittenList) → IsOne (list_rule roster made)
unfolding list_rule
of_list roster made =
    of_min (min (kind_rule made.is_other) (twice_rule made.is_twice)) (items_rule made.list roster made.items.items)
    (of_min (kind_rule made.is_other) (twice_rule made.is_twice) (of_test made.is_other 4 no_rule (of_number 4 (omega arith) (omega arith)) none_is)
    (of_test made.is_twice 6 no_rule (of_number 6 (omega arith) (omega arith)) none_is))
    (of_items made.list roster no_rule made.items.items none_is)

of_lists : (roster : List Group) (written : WrittenScript) → IsOne (lists_rule roster written)
unfolding lists_rule
of_lists roster written =
    of_min _ _ (of_min _ _ (of_min _ _ (of_min _ _ (of_min _ _ (of_list roster written.crashes) (of_list roster written.leaves)) (of_list roster written.restarts)) (of_list roster written.slows))
    (of_list roster written.pauses)) (of_list roster written.blocks)

of_text : (roster : List Group) (groups : List WrittenGroup) (written : WrittenScript) → IsOne (text_rule roster groups written)
unfolding text_rule
of_text roster groups written =
    of_test _ _ _ (of_test _ 10 no_rule (of_number 10 (omega arith) (omega arith)) none_is) (of_lists roster written)

-- ---- what the lists stand for

of_either : (bad often : Bool) → IsOne (rule_or_none (cond bad (Some 9) (cond often (Some 10) None)))
of_either true often = of_number 9 (omega arith) (omega arith)
of_either false true = of_number 10 (omega arith) (omega arith)
of_either false false = none_is

of_both : (bad often many late : Bool) → IsOne (rule_or_none (option_or (cond bad (Some 9) (cond often (Some 10) None)) (cond many (Some 10) (cond late (Some 5) None))))
of_both true often many late = of_number 9 (omega arith) (omega arith)
of_both false true many late = of_number 10 (omega arith) (omega arith)
of_both false false true late = of_number 10 (omega arith) (omega arith)
of_both false false false true = of_number 5 (omega arith) (omega arith)
of_both false false false false = none_is

of_script : (start : ℕ → ℕ) (count : ℕ) (script : Script) (seed : ℕ) → IsOne (rule_or_none (script_rule start count script seed))
of_script start count script seed =
    let lists = plain_of start script (text_words seed) in
    of_both (breaks_entries start count script) (comes_too_often start script) (nat_lt most_made (entries_made lists)) (has_late lists)

-- ---- the document

of_named : (tick : ℕ) (groups : List WrittenGroup) (d : Data) (low rule : ℕ) → IsOne low → IsNamedRule tick groups d low rule → IsOne rule
of_named tick groups d low rule is broken =
    so rule (min (min low broken.references) broken.lists) broken.lowest
    (of_min (min low broken.references) broken.lists (of_min low broken.references is (of_reference tick (map group_of groups) d broken.references broken.of_references))
    (subst IsOne broken.of_lists.lowest (of_text (map group_of groups) groups broken.of_lists.written)))

of_names : (tick : ℕ) (groups : List WrittenGroup) (d : Data) (bad : Bool) (shape rule : ℕ) → IsOne shape → IsRuleOfNames tick groups d bad shape rule → IsOne rule
of_names tick groups d false shape rule is broken = of_named tick groups d shape rule is broken
of_names tick groups d true shape rule is broken = of_named tick [] d (min shape 6) rule (of_min shape 6 is (of_number 6 (omega arith) (omega arith))) broken

of_written : (tick : ℕ) (groups : List WrittenGroup) (d : Data) (rule : ℕ) → IsWrittenRule tick groups d rule → IsOne rule
of_written tick groups d rule is = of_names tick groups d (breaks_names (map group_of groups)) is.shape rule (of_shape tick d is.shape is.of_shape) is.lowest

of_after : (tick : ℕ) (groups : List WrittenGroup) (d : Data) (fine : Bool) (written rule : ℕ) → IsOne written → IsRuleAfter tick groups d fine written rule → IsOne rule
of_after tick groups d true written rule is broken =
    so rule _ broken.lowest (of_script (start_in (starts_of groups)) (length (starts_of groups)) broken.script (seed_in d))
of_after tick groups d false written rule is broken = so rule written broken is

pub rule_is_one : (d : Data) (rule : ℕ) → IsDocumentRule d rule → rule ≢ no_rule → (1 ≤ rule) × (rule ≤ 11)
rule_is_one d rule is some =
    let one = of_after is.tick is.groups d (nat_eq is.written no_rule) is.written rule (of_written is.tick is.groups d is.written is.of_written) is.lowest in
    (one.0, one.1 some)
