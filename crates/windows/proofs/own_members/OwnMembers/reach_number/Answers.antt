use Rattle.std.proofs.Common.{◌<◌, length, arith}
use Rattle.std.proofs.lemmas.Bool.Decides.{nat_tests}
use Rattle.windows.proofs.Deliveries.{if_ok}
use Rattle.windows.proofs.Slots.{same_table}
use Rattle.windows.proofs.own_members.OwnMembers.reach_number.Goals as goal

pub returns-clause-same : goal.returns-clause-same
returns-clause-same c =
    let own = c.args.self.now in
    let some : 0 < length own.places.items = grind (arith, nat_tests, c.if-is_empty.ensures) in
    if_ok c.reach.result c.reach.ensures.reached (λ reached.
    let more : 0 < length c.reach.new.places.items = omega (arith, reached) in
    same_table c.reach.new.places.items own.places.items own.members.items more some c.reach.ensures.same)
