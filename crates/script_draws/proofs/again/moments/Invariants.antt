use Rattle.std.proofs.Common.{◌<◌, ◌≤◌, ◌^◌, ◌-◌, length}
use Rattle.streams.specs.Draw.{words_of}
use Rattle.script_draws.proofs.AgainLemmas.{IsOnMoments}
use Rattle.script_draws.proofs.again.moments.Given as goal

abbrev pub invariant-loop-moment : goal.invariant-loop-moment
invariant-loop-moment l =
    IsOnMoments l.recurrence l.back l.start (words_of l.fn.stream) l.moments.items l.moment (words_of l.stream)
    × (length l.moments.items ≤ l.room) × (l.moment < 2 ^ 43)

abbrev pub decreases-loop-moment : goal.decreases-loop-moment
decreases-loop-moment l = l.recurrence.until - l.moment
