-- The rule that a document breaks is one.
use Rattle.std.proofs.Common.{◌≡◌, ◌≤◌, ℕ, min, Bool, true, false, List, [], map, length, nat_eq, refl, ap, sym, subst, ◌∙◌, codes, cond, nat_lt}
use Rattle.std.specs.List.{AllZip}
use Rattle.toml.specs.Data.{Data}
use Rattle.scenario.specs.Setup.{Group}
use Rattle.plain_entries.specs.Entries.{start_in}
use Rattle.expansion.specs.Verdict.{script_rule}
use Rattle.script_reader.proofs.One.{same_rule}
use Rattle.script_reader.specs.Lists.{script_rule as lists_rule}
use Rattle.script_reader.specs.Script.{text_rule, Breaks}
use Rattle.script_reader.specs.Who.{member_total}
use Rattle.script_reader.specs.declared.lists.WrittenScript.{WrittenScript}
use Rattle.written_groups.specs.Groups.{IsGroupIn}
use Rattle.written_groups.specs.Values.{items_at}
use Rattle.written_names.specs.Names.{breaks_names}
use Rattle.written_names.specs.Roster.{group_of}
use Rattle.written_names.specs.declared.roster.WrittenGroup.{WrittenGroup}
use Rattle.written_schema.specs.Lowest.{no_rule}
use Rattle.written_schema.specs.References.{IsReferenceRule}
use Rattle.expanded_text.specs.Rule.{rule_or_none, seed_in, starts_of, IsDocumentRule, IsNamedRule, IsRuleAfter, IsRuleOfNames, IsScriptRule, IsWrittenRule}
use Rattle.text_reader.proofs.Groups.{same_groups, same_starts, same_total}
use Rattle.text_reader.proofs.Numbers.{one_tick, some_tick}
use Rattle.text_reader.proofs.Scripts.{same_script, same_script_rule}
use Rattle.text_reader.proofs.Shape.{one_reference, one_shape}

abbrev of_total : (total : ℕ) → List Group → WrittenScript → ℕ
of_total total roster written = cond (nat_eq (lists_rule roster written) no_rule) (cond (nat_lt 16384 total) 10 no_rule) (lists_rule roster written)

rule_is : (roster : List Group) (groups : List WrittenGroup) (written : WrittenScript) → text_rule roster groups written ≡ of_total (member_total groups) roster written
unfolding text_rule
rule_is roster groups written = refl

module _ (tick : ℕ) (some : 1 ≤ tick) (d : Data) where
  module _ (a b : List WrittenGroup) (same : map group_of a ≡ map group_of b) where
    one_of_lists : (x y : ℕ) → Breaks tick d (map group_of a) a x → Breaks tick d (map group_of b) b y → x ≡ y
    one_of_lists x y first second =
        sym first.lowest ∙ same_rule tick some d (map group_of a) a first.written second.written first.reads second.reads
        ∙ rule_is (map group_of a) a second.written
        ∙ (λ i. of_total (same_total a b same i) (same i) second.written)
        ∙ sym (rule_is (map group_of b) b second.written) ∙ second.lowest

    one_named : (low other x y : ℕ) → low ≡ other → IsNamedRule tick a d low x → IsNamedRule tick b d other y → x ≡ y
    one_named low other x y lows first second =
        let references =
        one_reference tick some (map group_of b) d first.references second.references
        (subst (λ (roster : List Group). IsReferenceRule tick roster d first.references) same first.of_references) second.of_references in
        let lists = one_of_lists first.lists second.lists first.of_lists second.of_lists in
        first.lowest ∙ (λ i. min (min (lows i) (references i)) (lists i)) ∙ sym second.lowest

  one_of_names : (a b : List WrittenGroup) → map group_of a ≡ map group_of b → (bad : Bool) (shape other x y : ℕ) → shape ≡ other
      → IsRuleOfNames tick a d bad shape x → IsRuleOfNames tick b d bad other y → x ≡ y
  one_of_names a b same false shape other x y shapes first second = one_named a b same shape other x y shapes first second
  one_of_names a b same true shape other x y shapes first second =
      one_named [] [] refl (min shape 6) (min other 6) x y (ap (λ (n : ℕ). min n 6) shapes) first second

  one_written : (a b : List WrittenGroup) → map group_of a ≡ map group_of b → (x y : ℕ) → IsWrittenRule tick a d x → IsWrittenRule tick b d y → x ≡ y
  one_written a b same x y first second =
      let shapes = one_shape tick some d first.shape second.shape first.of_shape second.of_shape in
      one_of_names a b same (breaks_names (map group_of b)) first.shape second.shape x y shapes
      (subst (λ (groups : List Group). IsRuleOfNames tick a d (breaks_names groups) first.shape x) same first.lowest) second.lowest

  one_of_script : (a b : List WrittenGroup) → map group_of a ≡ map group_of b → (x y : ℕ) → IsScriptRule tick a d x → IsScriptRule tick b d y → x ≡ y
  one_of_script a b same x y first second =
      let says = same_script tick some a b same d first.script second.script first.read second.read in
      first.lowest
      ∙ ap (λ (starts : List ℕ). rule_or_none (script_rule (start_in starts) (length starts) first.script (seed_in d))) (same_starts a b same)
      ∙ ap rule_or_none (same_script_rule (start_in (starts_of b)) first.script second.script says (length (starts_of b)) (seed_in d))
      ∙ sym second.lowest

  one_after : (a b : List WrittenGroup) → map group_of a ≡ map group_of b → (fine : Bool) (written other x y : ℕ) → written ≡ other
      → IsRuleAfter tick a d fine written x → IsRuleAfter tick b d fine other y → x ≡ y
  one_after a b same true written other x y rules first second = one_of_script a b same x y first second
  one_after a b same false written other x y rules first second = first ∙ rules ∙ sym second

alike : (d : Data) (x y : ℕ) (first : IsDocumentRule d x) (second : IsDocumentRule d y) → second.tick ≡ first.tick → x ≡ y
alike d x y first second same =
    let some : 1 ≤ first.tick = some_tick d first.tick first.says.ticks in
    let groups = same_groups first.tick some (items_at (codes "group") d) first.groups second.groups first.says.named
    (subst (λ (tick : ℕ). AllZip (IsGroupIn tick) (items_at (codes "group") d) second.groups) same second.says.named) in
    let written : first.written ≡ second.written = one_written first.tick some d first.groups second.groups groups first.written second.written first.of_written
    (subst (λ (tick : ℕ). IsWrittenRule tick second.groups d second.written) same second.of_written) in
    one_after first.tick some d first.groups second.groups groups (nat_eq second.written no_rule) first.written second.written x y written
    (subst (λ (n : ℕ). IsRuleAfter first.tick first.groups d (nat_eq n no_rule) first.written x) written first.lowest)
    (subst (λ (tick : ℕ). IsRuleAfter tick second.groups d (nat_eq second.written no_rule) second.written y) same second.lowest)

pub one_rule : (d : Data) (x y : ℕ) → IsDocumentRule d x → IsDocumentRule d y → x ≡ y
one_rule d x y first second = alike d x y first second (one_tick d second.tick first.tick second.says.ticks first.says.ticks)
