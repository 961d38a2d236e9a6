use Rattle.std.proofs.Common.{◌≡◌, ◌∙◌, Bool, true, false, inl, sym, subst}
use Rattle.toml.specs.View.{view}
use Rattle.std.specs.Prelude.{OnOk, IfErr}
use Rattle.expand_command.specs.Texts.{is_fourth, BreaksRule, BreaksRuleBy, IfNamed, KeepsVersion, SaysScenario}
use Rattle.expand_command.proofs.Failures.{named}
use Rattle.expand_command.proofs.texts.check_version.Goals as goal
use Rattle.expand_command.proofs.texts.check_version.Goals.{in-Ok, in-Err}

pub returns-then-is_fourth-clause-kept : goal.returns-then-is_fourth-clause-kept
returns-then-is_fourth-clause-kept c =
    let d = view c.args.document.now in
    let fourth : is_fourth d ≡ true = sym c.is_fourth.ensures ∙ c.if-is_fourth.true in
    subst (λ (b : Bool). SaysScenario b d) (sym fourth) tt

pub returns-clause-kept : goal.returns-clause-kept
returns-clause-kept c =
    let d = view c.args.document.now in
    let fourth : is_fourth d ≡ false = sym c.is_fourth.ensures ∙ c.if-is_fourth.false in
    elim c.match-read_document.branch [
      | in-Ok w ↦ subst (λ r. OnOk r (KeepsVersion d)) (sym w.result-is) (subst (λ (b : Bool). SaysScenario b d) (sym fourth) (_, w.in-Ok.ensures.accepted))
      | in-Err w ↦ subst (λ r. OnOk r (KeepsVersion d)) (sym w.result-is) tt
    ]

pub returns-clause-refused : goal.returns-clause-refused
returns-clause-refused c =
    let d = view c.args.document.now in
    let fourth : is_fourth d ≡ false = sym c.is_fourth.ensures ∙ c.if-is_fourth.false in
    elim c.match-read_document.branch [
      | in-Ok w ↦ subst (λ r. IfErr r (IfNamed (BreaksRule d))) (sym w.result-is) tt
      | in-Err w ↦ subst (λ r. IfErr r (IfNamed (BreaksRule d))) (sym w.result-is)
          (subst (IfNamed (BreaksRule d)) (sym w.text_failure.ensures)
          (named (BreaksRule d) w.in-Err.refusal.rule
          (λ other. subst (λ (b : Bool). BreaksRuleBy b d w.in-Err.refusal.rule) (sym fourth) (inl (w.in-Err.ensures.refused other)))))
    ]
