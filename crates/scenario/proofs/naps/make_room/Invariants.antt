use Rattle.std.proofs.Common.{◌≡◌, ℕ, ◌+◌, ◌-◌, vec_len}
use Rattle.scenario.specs.Naps.{naps_at}
use Rattle.scenario.proofs.naps.make_room.Given as goal

abbrev pub invariant-loop-alloc : goal.invariant-loop-alloc
invariant-loop-alloc l = (m : ℕ) → naps_at l.naps.items m ≡ naps_at l.fn.naps.items m

abbrev pub decreases-loop-alloc : goal.decreases-loop-alloc
decreases-loop-alloc l = l.member + 1 - vec_len l.naps
