use Rattle.std.proofs.Common.{◌≡◌, ℕ, ◌+◌, ◌-◌, vec_len}
use Rattle.links.specs.Entries.{spans_in}
use Rattle.links.proofs.spans.make_room.Given as goal

abbrev pub invariant-loop-alloc : goal.invariant-loop-alloc
invariant-loop-alloc l = (m : ℕ) → spans_in l.spans.items m ≡ spans_in l.fn.spans.items m

abbrev pub decreases-loop-alloc : goal.decreases-loop-alloc
decreases-loop-alloc l = l.member + 1 - vec_len l.spans
