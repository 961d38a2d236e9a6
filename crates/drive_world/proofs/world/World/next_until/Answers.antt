use Rattle.drive_world.proofs.Goes.{is_over, none_over}
use Rattle.drive_world.proofs.Pends.{at_most_by_cmp}
use Rattle.drive_world.proofs.world.World.next_until.Goals as goal

pub returns-in_default-clause-over : goal.returns-in_default-clause-over
returns-in_default-clause-over c = none_over c.args.end c.args.self.now c.in_default.ensures.none

pub returns-then-le-clause-in_time : goal.returns-then-le-clause-in_time
returns-then-le-clause-in_time c = at_most_by_cmp _ _ c.if-le.ensures

pub returns-else-le-clause-over : goal.returns-else-le-clause-over
returns-else-le-clause-over c = is_over c.args.end c.args.self.now _ c.in-Some.least c.if-le.ensures c.in-Some.ensures.least
