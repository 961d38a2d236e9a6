use Rattle.std.proofs.Common.{◌≡◌, ◌*◌, length, []}
use Rattle.streams.specs.Draw.{words_of}
use Rattle.probing.specs.Samples.{sampled_by}
use Rattle.probing.proofs.samples.sample.Given as goal

-- the draws that are left lead to the whole sample
abbrev pub invariant-loop-draws : goal.invariant-loop-draws
invariant-loop-draws l =
    sampled_by l.draws l.k l.candidates l.taken.items (words_of l.stream) ≡ sampled_by (3 * length l.candidates) l.k l.candidates [] (words_of l.fn.stream)

abbrev pub decreases-loop-draws : goal.decreases-loop-draws
decreases-loop-draws l = l.draws
