use Rattle.std.proofs.Common.{ℕ, ◌+◌, ◌-◌, ◌%◌, subst, sym}
use Rattle.base.specs.Beats.{IsNextInStep}
use Rattle.base.proofs.InStep.{is_next}
use Rattle.base.proofs.beats.next_in_step.Goals as goal

pub returns-clause-least : goal.returns-clause-least
returns-clause-least c =
    subst (λ (t : ℕ). IsNextInStep c.args.beat c.args.interval c.args.now (t + c.args.interval - (t + c.args.interval - c.args.beat % c.args.interval) % c.args.interval))
    (sym c.ticks.ensures) (is_next c.args.beat c.args.interval c.args.now c.requires.some)
