use Rattle.std.proofs.Common.{◌==◌, arith}
use Rattle.std.proofs.lemmas.List.{length-take}
use Rattle.std.proofs.lemmas.List.Sums.{sum_by-take-le}
use Rattle.std.proofs.lemmas.List.Sorted.{length_permutation, sum_by-IsPermutation}
use Rattle.streams.specs.Draw.{shuffle_of}
use Rattle.streams.proofs.OrderLemmas.{shuffle_keeps}
use Rattle.probing.specs.ProbeOrder.{helpers_of}
use Rattle.probing.proofs.SoundLemmas.{one_if}
use Rattle.probing.proofs.laws.helpers_are_candidates.Goals as goal

pub returns-clause-number : goal.returns-clause-number
unfolding helpers_of
returns-clause-number c words count candidates fit short =
    let shuffled = (shuffle_of words candidates).0 in
    omega (arith, length-take count shuffled, length_permutation candidates shuffled (shuffle_keeps words candidates fit short))

pub returns-clause-each : goal.returns-clause-each
unfolding helpers_of
returns-clause-each c words count candidates member fit short =
    let shuffled = (shuffle_of words candidates).0 in
    omega (
      arith,
      sum_by-take-le (λ other. one_if (other == member)) shuffled count,
      sum_by-IsPermutation (λ other. one_if (other == member)) candidates shuffled (shuffle_keeps words candidates fit short),
    )
