use Rattle.std.proofs.Common.{◌≡◌, ◌∙◌, false, refl, sym, arith, rules}
use Rattle.std.proofs.lemmas.Bool.{false≢true}
use Rattle.drive_answers.proofs.Judged.{no_action}
use Rattle.drive_answers.proofs.said.said_by.Goals as goal

pub returns-clause-none : goal.returns-clause-none
returns-clause-none c =
    let isnt : c.is_exit.result ≡ false = first_of (search rules, grind arith) in
    λ _. no_action _ (c.in_default.ensures.none refl) (c.in_default-said_timer.ensures.none refl) (c.in_default-said_row.ensures.none refl) (c.in_default-said_used.ensures.none refl)
    (λ h. false≢true (sym isnt ∙ c.is_exit.ensures.1 h))
