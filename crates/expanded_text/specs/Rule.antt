-- The lowest rule that a text of version 4 breaks; 255 where it breaks none.
use Rattle.std.specs.Prelude.{◌≡◌, ℕ, min, Bool, true, false, List, [], map, flat_map, length, replicate, codes, nat_eq, Option, Some, None}
use Rattle.std.specs.List.{AllZip}
use Rattle.toml.specs.Data.{Data}
use Rattle.schema.specs.Values.{number_at}
use Rattle.schema.specs.declared.schema.FormatKey.TheVariants as key
use Rattle.schema.specs.declared.schema.Section.TheVariants as section
use Rattle.plain_entries.specs.Entries.{start_in}
use Rattle.plain_entries.specs.declared.script.Script.{Script}
use Rattle.expansion.specs.Verdict.{rule_of, script_rule}
use Rattle.expansion.specs.declared.refusal.ScriptRefusal.{ScriptRefusal}
use Rattle.expansion.specs.declared.refusal.ScriptRefusal.TheVariants as refusal
use Rattle.script_reader.specs.Script.{Breaks, IsScriptIn}
use Rattle.written_groups.specs.Groups.{IsGroupIn}
use Rattle.written_groups.specs.Values.{items_at}
use Rattle.written_names.specs.Names.{breaks_names}
use Rattle.written_names.specs.Roster.{group_of}
use Rattle.written_names.specs.declared.roster.WrittenGroup.{WrittenGroup}
use Rattle.written_schema.specs.Lowest.{no_rule}
use Rattle.written_schema.specs.References.{IsReferenceRule}
use Rattle.written_schema.specs.Shape.{IsShapeRule}
use Rattle.written_schema.specs.Values.{IsTickOf}
use Rattle.expanded_text.specs.declared.error.ExpandError.{ExpandError}
use Rattle.expanded_text.specs.declared.error.ExpandError.TheVariants as error

-- ---- what a document says

-- how many microseconds a tick has, and the groups
pub record Says (d : Data) (tick : ℕ) (groups : List WrittenGroup) : Type 0 where
  pub ticks : IsTickOf d tick
  pub named : AllZip (IsGroupIn tick) (items_at (codes "group") d) groups

abbrev pub seed_in : Data → ℕ
seed_in d = number_at section.Top key.Seed (Some d)

-- when all members start
abbrev pub starts_of : List WrittenGroup → List ℕ
starts_of groups = flat_map (λ (group : WrittenGroup). replicate group.count group.start) groups

-- ---- the document as it is written

-- the lowest of `low`, of the rules on names and times outside the six lists, and of those that the lists break
pub record IsNamedRule (tick : ℕ) (groups : List WrittenGroup) (d : Data) (low rule : ℕ) : Type 0 where
  pub references : ℕ
  pub lists : ℕ
  pub of_references : IsReferenceRule tick (map group_of groups) d references
  pub of_lists : Breaks tick d (map group_of groups) groups lists
  pub lowest : rule ≡ min (min low references) lists

-- names are judged by the groups; where a group's name breaks rule 6, by none
abbrev pub IsRuleOfNames : (tick : ℕ) → List WrittenGroup → Data → (bad : Bool) → (shape rule : ℕ) → Type 0
IsRuleOfNames tick groups d false shape rule = IsNamedRule tick groups d shape rule
IsRuleOfNames tick groups d true shape rule = IsNamedRule tick [] d (min shape 6) rule

pub record IsWrittenRule (tick : ℕ) (groups : List WrittenGroup) (d : Data) (rule : ℕ) : Type 0 where
  pub shape : ℕ
  pub of_shape : IsShapeRule tick d shape
  pub lowest : IsRuleOfNames tick groups d (breaks_names (map group_of groups)) shape rule

-- ---- its entries, and what they stand for

abbrev pub rule_or_none : Option ℕ → ℕ
rule_or_none (Some rule) = rule
rule_or_none None = no_rule

-- where the document breaks no rule as it is written: what its lists break by members, moments and chance
pub record IsScriptRule (tick : ℕ) (groups : List WrittenGroup) (d : Data) (rule : ℕ) : Type 0 where
  pub script : Script
  pub read : IsScriptIn tick d (map group_of groups) groups script
  pub lowest : rule ≡ rule_or_none (script_rule (start_in (starts_of groups)) (length (starts_of groups)) script (seed_in d))

abbrev pub IsRuleAfter : (tick : ℕ) → List WrittenGroup → Data → (fine : Bool) → (written rule : ℕ) → Type 0
IsRuleAfter tick groups d true written rule = IsScriptRule tick groups d rule
IsRuleAfter tick groups d false written rule = rule ≡ written

-- ---- the text

-- the lowest rule that a document breaks
pub record IsDocumentRule (d : Data) (rule : ℕ) : Type 0 where
  pub tick : ℕ
  pub groups : List WrittenGroup
  pub written : ℕ
  pub says : Says d tick groups
  pub of_written : IsWrittenRule tick groups d written
  pub lowest : IsRuleAfter tick groups d (nat_eq written no_rule) written rule

-- ---- errors

-- an error that names a rule
abbrev pub IfRefused : (ℕ → Type 0) → ExpandError → Type 0
IfRefused Is (error.Rule rule) = Is rule
IfRefused Is error.Memory = Unit {0}

-- of lists that are refused
abbrev pub error_of : ScriptRefusal → ExpandError
error_of refusal.Memory = error.Memory
error_of refused = error.Rule (rule_of refused)
