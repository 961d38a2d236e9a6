use Rattle.std.proofs.Common.{◌≤◌, ◌^◌, length, ap, subst, arith}
use Rattle.reports.proofs.Faults.{handed_on}
use Rattle.reports.proofs.Places.{fewer}
use Rattle.reports.proofs.tallies.Tallies.add_all.Goals as goal

pub returns-in_err-add-clause-overflow : goal.returns-in_err-add-clause-overflow
returns-in_err-add-clause-overflow c = λ h.
    fewer c.args.self.now c.args.rows.now c.loop-row.row-index (2 ^ 63) c.loop-row-test.true
    (subst (λ l. 2 ^ 63 ≤ length l) c.loop-row.invariant (c.in_err-add.ensures.overflow (handed_on c.from_residual.result _ _ c.from_residual.ensures.1 h)))

pub returns-clause-lasts : goal.returns-clause-lasts
returns-clause-lasts c = omega (arith, ap length c.self.view_is, c.self.invariant.0.all, c.self.invariant.3)
