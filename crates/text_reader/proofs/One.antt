-- A document has one answer.
use Rattle.std.proofs.Common.{◌≡◌, ℕ, Bool, true, false, Result, Ok, Err, ap, sym, ◌∙◌, inl, inr}
use Rattle.toml.specs.Data.{Data}
use Rattle.scenario.specs.Setup.{is_fourth, Setup}
use Rattle.scenario_reader.specs.Reading.{version_of}
use Rattle.scenario_reader.specs.Rules.{verdict}
use Rattle.written_schema.specs.Lowest.{no_rule}
use Rattle.expanded_text.specs.Order.{tree_order}
use Rattle.text_reader.specs.Answers.{AnswersBy, AnswersDocument, AnswersFourth, AnswersPlain}
use Rattle.text_reader.proofs.Rules.{one_rule}
use Rattle.text_reader.proofs.Texts.{one_text}

one_plain : (d : Data) (a b : Result Setup ℕ) → AnswersPlain d a → AnswersPlain d b → a ≡ b
one_plain d a b first second = sym first.same ∙ ap verdict (one_text (tree_order d) d first.text second.text first.plain second.plain) ∙ second.same

one_fourth : (d : Data) (a b : Result Setup ℕ) → AnswersFourth d a → AnswersFourth d b → a ≡ b
one_fourth d (Ok s) (Ok t) first second = one_plain d (Ok s) (Ok t) first second
one_fourth d (Ok s) (Err y) first (inl second) = absurd (second.0 (one_rule d y no_rule second.1 first.fine))
one_fourth d (Ok s) (Err y) first (inr second) = one_plain d (Ok s) (Err y) first second
one_fourth d (Err x) (Ok t) (inl first) second = absurd (first.0 (one_rule d x no_rule first.1 second.fine))
one_fourth d (Err x) (Ok t) (inr first) second = one_plain d (Err x) (Ok t) first second
one_fourth d (Err x) (Err y) (inl first) (inl second) = ap Err (one_rule d x y first.1 second.1)
one_fourth d (Err x) (Err y) (inl first) (inr second) = absurd (first.0 (one_rule d x no_rule first.1 second.fine))
one_fourth d (Err x) (Err y) (inr first) (inl second) = absurd (second.0 (one_rule d y no_rule second.1 first.fine))
one_fourth d (Err x) (Err y) (inr first) (inr second) = one_plain d (Err x) (Err y) first second

one_by : (fourth : Bool) (d : Data) (a b : Result Setup ℕ) → AnswersBy fourth d a → AnswersBy fourth d b → a ≡ b
one_by true d a b first second = one_fourth d a b first second
one_by false d a b first second = sym first ∙ second

pub one_answer : (d : Data) (a b : Result Setup ℕ) → AnswersDocument d a → AnswersDocument d b → a ≡ b
one_answer d a b first second = one_by (is_fourth (version_of d)) d a b first second
