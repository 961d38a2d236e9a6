-- What a plain text is answered its document is.
use Rattle.std.proofs.Common.{◌≡◌, ◌≢◌, ◌≤◌, ◌⊎◌, arith, ℕ, List, Result, Ok, Err, IfOk, IfErr, inl, inr, ap, sym, subst, ◌∙◌}
use Rattle.toml.specs.Data.{Data}
use Rattle.scenario.specs.Setup.{Setup}
use Rattle.scenario_reader.specs.Rules.{verdict}
use Rattle.scenario_reader.specs.declared.refusal.Refusal.{Refusal}
use Rattle.written_schema.specs.Lowest.{no_rule}
use Rattle.expanded_text.specs.Rule.{seed_in, IfRefused, IsDocumentRule}
use Rattle.expanded_text.specs.declared.error.ExpandError.{ExpandError}
use Rattle.expanded_text.specs.declared.error.ExpandError.TheVariants as error
use Rattle.expanded_text.specs.Text.{IsTreeTextOf}
use Rattle.text_reader.proofs.Numbered.{rule_is_one}
use Rattle.text_reader.specs.Answers.{rule_of, AnswersFourth, AnswersPlain}

answered : (d : Data) (text bytes : List ℕ) → IsTreeTextOf d text → IsDocumentRule d no_rule → bytes ≡ text → (answer : Result Setup ℕ) → verdict bytes ≡ answer
    → IfOk answer (λ s. s.seed ≡ seed_in d) → AnswersPlain d answer
answered d text bytes plain fine same answer is seeded = record { text = text; plain = plain; fine = fine; same = ap verdict (sym same) ∙ is; seeded = seeded }

-- what is read, and then what is handed out of it
pub accepted_too : (d : Data) (text bytes : List ℕ) → IsTreeTextOf d text → IsDocumentRule d no_rule → bytes ≡ text → (read r : Result Setup Refusal) (seed : ℕ)
    → IfOk read (λ s. verdict bytes ≡ Ok s) → seed ≡ seed_in d → IfOk r (λ s. (read ≡ Ok s) × (s.seed ≡ seed)) → IfOk r (λ s. AnswersFourth d (Ok s))
accepted_too d text bytes plain fine same read (Ok s) seed is drawn out =
    answered d text bytes plain fine same (Ok s) (subst (λ (o : Result Setup Refusal). IfOk o (λ t. verdict bytes ≡ Ok t)) out.0 is) (out.1 ∙ drawn)
accepted_too d text bytes plain fine same read (Err refusal) seed is drawn out = out

pub refused_too : (d : Data) (text bytes : List ℕ) → IsTreeTextOf d text → IsDocumentRule d no_rule → bytes ≡ text → (read r : Result Setup Refusal)
    → IfErr read (λ e. e.rule ≢ 11 → verdict bytes ≡ Err e.rule) → IfErr r (λ e. e.rule ≢ 11 → read ≡ Err e) → IfErr r (λ e. e.rule ≢ 11 → AnswersFourth d (Err e.rule))
refused_too d text bytes plain fine same read (Ok s) is out = out
refused_too d text bytes plain fine same read (Err refusal) is out = λ other.
    inr (answered d text bytes plain fine same (Err refusal.rule)
    (subst (λ (o : Result Setup Refusal). IfErr o (λ e. e.rule ≢ 11 → verdict bytes ≡ Err e.rule)) (out other) is other) tt)

pub refused_as_written : (d : Data) (e : ExpandError) (rule : ℕ) → rule ≡ rule_of e → IfRefused (IsDocumentRule d) e → IfRefused (λ broken. broken ≢ no_rule) e
    → rule ≢ 11 → AnswersFourth d (Err rule)
refused_as_written d (error.Rule broken) rule same is some other = subst (λ (n : ℕ). AnswersFourth d (Err n)) (sym same) (inl (some, is))
refused_as_written d error.Memory rule same is some other = absurd (other same)

-- ---- the numbers of rules

pub numbered_too : (read r : Result Setup Refusal) → IfErr read (λ e. (1 ≤ e.rule) × (e.rule ≤ 11)) → IfErr r (λ e. (e.rule ≡ 11) ⊎ (read ≡ Err e))
    → IfErr r (λ e. (1 ≤ e.rule) × (e.rule ≤ 11))
numbered_too read (Ok s) is out = out
numbered_too read (Err refusal) is (inl last) = (omega (arith, last), omega (arith, last))
numbered_too read (Err refusal) is (inr same) = subst (λ (o : Result Setup Refusal). IfErr o (λ e. (1 ≤ e.rule) × (e.rule ≤ 11))) same is

pub numbered_as_written : (d : Data) (e : ExpandError) (rule : ℕ) → rule ≡ rule_of e → IfRefused (IsDocumentRule d) e → IfRefused (λ broken. broken ≢ no_rule) e
    → (1 ≤ rule) × (rule ≤ 11)
numbered_as_written d (error.Rule broken) rule same is some = subst (λ (n : ℕ). (1 ≤ n) × (n ≤ 11)) (sym same) (rule_is_one d broken is some)
numbered_as_written d error.Memory rule same is some = (omega (arith, same), omega (arith, same))
