use Rattle.std.proofs.Common.{◌≤◌, ◌^◌, ◌∷◌, [], sym, subst, arith, length-append}
use Rattle.std.specs.Prelude.{IfSome}
use Rattle.reports.specs.Counts.{AreCountsOf}
use Rattle.reports.specs.Failures.{AreFailuresOf}
use Rattle.reports.specs.Held.{AreRevivalsOf}
use Rattle.reports.specs.Watched.{IsWatchOf}
use Rattle.reports.proofs.Returning.{few_revivals}
use Rattle.reports.proofs.tallies.Tallies.add.Goals as goal

-- there are no more such rows than rows
pub follow-requires-2-clause-by_one : goal.follow-requires-2-clause-by_one
follow-requires-2-clause-by_one c =
    let rows = c.self.inside.past in
    let counts = c.self.invariant.0 in
    let revivals = c.in_ok-make_room_for_row.ensures.same rows c.self.invariant.2 in
    omega (arith, counts.all, revivals.all, few_revivals rows, c.if-self-ge-COUNTER_LIMIT.false)

pub see-requires : goal.see-requires
see-requires c =
    let rows = c.self.inside.past in
    (rows, c.self.invariant.4, omega (arith, c.self.invariant.0.all, c.if-self-ge-COUNTER_LIMIT.false))

pub invariant_of-self-2 : goal.invariant_of-self-2
invariant_of-self-2 c =
    let rows = c.self.inside.past in
    let row = c.args.row.now in
    let counts = c.count.ensures rows c.self.invariant.0 in
    subst
    (λ l. AreCountsOf c.count.new.self l × AreFailuresOf c.follow.new.self l × AreRevivalsOf c.follow-2.new.self l × (c.count.new.self.rows ≤ 2 ^ 63) × IfSome c.see.new.watch (λ watch. IsWatchOf watch l))
    (sym c.append.ensures) (
      counts,
      c.in_ok-follow.ensures.ok rows c.self.invariant.1,
      c.follow-2.ensures rows (c.in_ok-make_room_for_row.ensures.same rows c.self.invariant.2),
      omega (arith, counts.all, c.self.invariant.0.all, c.if-self-ge-COUNTER_LIMIT.false, length-append rows (row ∷ [])),
      c.see.ensures rows c.self.invariant.4,
    )
