use Rattle.std.proofs.Common.{sym}
use Rattle.windows.proofs.Deliveries.{kept_if_own}
use Rattle.windows.proofs.steps.place.Goals as goal

pub returns-then-has-clause-own : goal.returns-then-has-clause-own
returns-then-has-clause-own g c = kept_if_own c.push.result _ _ _ c.args.event (sym c.if-has.ensures) c.push.ensures
