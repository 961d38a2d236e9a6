use Rattle.std.proofs.Common.{◌≡◌, ◌<◌, ◌≤◌, ◌^◌, length}
use Rattle.streams.specs.Draw.{words_of}
use Rattle.script_draws.specs.Choice.{left_after}
use Rattle.script_draws.proofs.choice.take_out.Given as goal

-- what is left to take out leads to all that is taken out
abbrev pub invariant-loop-remaining : goal.invariant-loop-remaining
invariant-loop-remaining l =
    (left_after l.remaining l.left.items (words_of l.stream) ≡ left_after l.times l.fn.left.items (words_of l.fn.stream))
    × (l.remaining ≤ length l.left.items) × (length l.left.items < 2 ^ 32)

abbrev pub decreases-loop-remaining : goal.decreases-loop-remaining
decreases-loop-remaining l = l.remaining
