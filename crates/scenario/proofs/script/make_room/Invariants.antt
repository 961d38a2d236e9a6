use Rattle.std.proofs.Common.{◌≡◌, ℕ, ◌+◌, ◌-◌, vec_len}
use Rattle.scenario.specs.Scripts.{script_at}
use Rattle.scenario.proofs.script.make_room.Given as goal

abbrev pub invariant-loop-alloc : goal.invariant-loop-alloc
invariant-loop-alloc l = (m : ℕ) → script_at l.scripts.items m ≡ script_at l.fn.scripts.items m

abbrev pub decreases-loop-alloc : goal.decreases-loop-alloc
decreases-loop-alloc l = l.member + 1 - vec_len l.scripts
