use Rattle.std.proofs.Common.{arith}
use Rattle.reports.proofs.Returning.{few_revivals}
use Rattle.reports.proofs.watch.follow_revival.Goals as goal

-- there are no more such rows than rows
pub follow-requires-clause-by_one : goal.follow-requires-clause-by_one
follow-requires-clause-by_one c =
    let rows = c.requires.0 in
    let revivals = c.in_ok-make_room_for_row.ensures.same rows c.requires.1 in
    omega (arith, revivals.all, few_revivals rows, c.requires.2)
