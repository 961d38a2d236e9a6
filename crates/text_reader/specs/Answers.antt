-- What a text is answered: its scenario, or the lowest rule that it breaks.
use Rattle.std.specs.Prelude.{◌≡◌, ◌≢◌, ◌⊎◌, ℕ, List, Bool, true, false, Option, Some, None, Result, Ok, Err, IfOk}
use Rattle.toml.specs.Data.{Data}
use Rattle.scenario.specs.Setup.{Setup, is_fourth}
use Rattle.scenario_reader.specs.Reading.{version_of}
use Rattle.scenario_reader.specs.Rules.{document_verdict, tree_of, verdict}
use Rattle.written_schema.specs.Lowest.{no_rule}
use Rattle.expanded_text.specs.Rule.{seed_in, IsDocumentRule}
use Rattle.expanded_text.specs.Text.{IsTreeTextOf}
use Rattle.expanded_text.specs.declared.error.ExpandError.{ExpandError}
use Rattle.expanded_text.specs.declared.error.ExpandError.TheVariants as error

-- the document breaks no rule as it is written, and its plain text is answered so: the one in the order in which its tables hold its keys,
-- which has its seed
pub record AnswersPlain (d : Data) (answer : Result Setup ℕ) : Type 0 where
  pub text : List ℕ
  pub plain : IsTreeTextOf d text
  pub fine : IsDocumentRule d no_rule
  pub same : verdict text ≡ answer
  pub seeded : IfOk answer (λ s. s.seed ≡ seed_in d)

-- a document of version 4 is answered as its plain text, or refused by the lowest rule that it breaks as it is written
abbrev pub AnswersFourth : Data → Result Setup ℕ → Type 0
AnswersFourth d (Ok s) = AnswersPlain d (Ok s)
AnswersFourth d (Err rule) = ((rule ≢ no_rule) × IsDocumentRule d rule) ⊎ AnswersPlain d (Err rule)

-- what a document is answered, of version 4 or of an earlier one
abbrev pub AnswersBy : (fourth : Bool) → Data → Result Setup ℕ → Type 0
AnswersBy true d answer = AnswersFourth d answer
AnswersBy false d answer = document_verdict d ≡ answer

abbrev pub AnswersDocument : Data → Result Setup ℕ → Type 0
AnswersDocument d answer = AnswersBy (is_fourth (version_of d)) d answer

-- rule 1 refuses bytes that are no document
abbrev pub AnswersTree : Option Data → Result Setup ℕ → Type 0
AnswersTree None answer = answer ≡ Err 1
AnswersTree (Some d) answer = AnswersDocument d answer

-- the text is answered so
abbrev pub Answers : List ℕ → Result Setup ℕ → Type 0
Answers bytes answer = AnswersTree (tree_of bytes) answer

-- the rule of a text that isn't expanded; 11 for want of memory
abbrev pub rule_of : ExpandError → ℕ
rule_of (error.Rule rule) = rule
rule_of error.Memory = 11
