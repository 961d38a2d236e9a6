use Rattle.std.proofs.Common.{◌<◌, length, get_or}
use Rattle.worker_queue.specs.Slots.{IsRank}
use Rattle.worker_queue.proofs.Leasts.{AreLow}
use Rattle.worker_queue.proofs.falling.least_place.Given as goal

-- no event so far comes before that at the place, of which the rank is kept
abbrev pub invariant-loop-other : goal.invariant-loop-other
invariant-loop-other g l = record {
  within : l.place < length l.events;
  low : AreLow g.E.Keyed.key l.events l.place l.other;
  ranked : (e : _) → IsRank (g.E.Keyed.key (get_or l.events l.place e)) l.least;
}
