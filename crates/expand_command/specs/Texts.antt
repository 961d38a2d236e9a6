-- What a text stands for, and which rule it breaks, by the rules of its version.
use Rattle.std.specs.Prelude.{◌≡◌, ◌⊎◌, ℕ, Bool, true, false, List, nat_eq, Option, Some, None, Ok, Err}
use Rattle.toml.specs.Data.{Data}
use Rattle.schema.specs.Values.{number_at}
use Rattle.schema.specs.declared.schema.FormatKey.TheVariants as key
use Rattle.schema.specs.declared.schema.Section.TheVariants as section
use Rattle.scenario.specs.Setup.{Setup}
use Rattle.scenario_reader.specs.Rules.{document_verdict, tree_of}
use Rattle.written_schema.specs.Lowest.{no_rule}
use Rattle.expanded_text.specs.Rule.{IsDocumentRule}
use Rattle.expanded_text.specs.Text.{IsPlainTextOf}
use Rattle.expanded_text.specs.declared.error.ExpandError.{ExpandError}
use Rattle.expanded_text.specs.declared.error.ExpandError.TheVariants as error
use Rattle.command_line.specs.declared.failure.Failure.{Failure}
use Rattle.command_line.specs.declared.failure.Failure.TheVariants.{Rule, Memory}

-- a document of version 4
abbrev pub is_fourth : Data → Bool
is_fourth d = nat_eq (number_at section.Top key.Version (Some d)) 4

-- ---- what is accepted

-- a document of version 1 to 3 says a scenario
abbrev pub SaysScenario : (fourth : Bool) → Data → Type 0
SaysScenario true d = Unit {0}
SaysScenario false d = (s : Setup) × (document_verdict d ≡ Ok s)

abbrev pub KeepsVersion : Data → Type 0
KeepsVersion d = SaysScenario (is_fourth d) d

-- the plain text of a document that breaks no rule
pub record IsExpanded (d : Data) (text : List ℕ) : Type 0 where
  pub version : KeepsVersion d
  pub plain : IsPlainTextOf d text
  pub fine : IsDocumentRule d no_rule

-- the plain text of these bytes
pub record StandsFor (bytes text : List ℕ) : Type 0 where
  pub document : Data
  pub read : tree_of bytes ≡ Some document
  pub expanded : IsExpanded document text

-- ---- what is refused

-- The lowest rule that a document breaks: of version 4 by that version's rules; of version 1 to 3 by its own. One that breaks none of its own
-- may break one of version 4.
abbrev pub BreaksRuleBy : (fourth : Bool) → Data → (rule : ℕ) → Type 0
BreaksRuleBy true d rule = IsDocumentRule d rule
BreaksRuleBy false d rule = (document_verdict d ≡ Err rule) ⊎ (SaysScenario false d × IsDocumentRule d rule)

abbrev pub BreaksRule : Data → (rule : ℕ) → Type 0
BreaksRule d rule = BreaksRuleBy (is_fourth d) d rule

-- rule 1 of bytes that are no document
abbrev pub RefusesTree : Option Data → (rule : ℕ) → Type 0
RefusesTree None rule = rule ≡ 1
RefusesTree (Some d) rule = BreaksRule d rule

abbrev pub RefusesBytes : List ℕ → (rule : ℕ) → Type 0
RefusesBytes bytes rule = RefusesTree (tree_of bytes) rule

-- ---- failures

-- a failure that names a rule, or memory
abbrev pub IfNamed : (ℕ → Type 0) → Failure → Type 0
IfNamed Is (Rule rule) = Is rule
IfNamed Is Memory = Unit {0}
IfNamed Is failure = ⊥

-- of a document that isn't expanded
abbrev pub failure_of : ExpandError → Failure
failure_of (error.Rule rule) = Rule rule
failure_of error.Memory = Memory
