use Rattle.std.proofs.Common.{◌≡◌, [], Some, subst, ◌∙◌}
use Rattle.std.specs.Prelude.{slice_get}
use Rattle.series.specs.Deaths.{IsStandingOf}
use Rattle.series.proofs.Dying.{replicated, behind_none}
use Rattle.series.proofs.deaths.no_standings.Goals as goal

pub returns-clause-none : goal.returns-clause-none
returns-clause-none c subject standing there =
    let is = c.in_ok-resize.ensures.items ∙ behind_none c.args.members c.new-standings.result.items _ c.new-standings.ensures.items in
    subst (λ x. IsStandingOf subject x []) (replicated _ subject c.new.result standing (subst (λ l. slice_get l subject ≡ Some standing) is there)) (c.new.ensures subject)
