use Rattle.std.proofs.Common.{ℕ, ◌==◌, ◌+◌, length, refl, arith}
use Rattle.std.proofs.lemmas.List.Sums.{sum_by-insert}
use Rattle.streams.specs.Draw.{below_of}
use Rattle.probing.specs.ProbeOrder.{insert_of}
use Rattle.probing.proofs.SoundLemmas.{one_if, one_if-same, one_if-other}
use Rattle.probing.proofs.OthersLemmas.{put_keeps_others}
use Rattle.probing.proofs.laws.an_insert_keeps_the_others.Goals as goal

pub returns-clause-added : goal.returns-clause-added
unfolding insert_of
returns-clause-added c words member order absent =
    let place = (below_of words (length order.members + 1)).0 in
    omega (arith, sum_by-insert (λ other. one_if (other == member)) order.members place member, one_if-same member member refl, absent)

pub returns-clause-others : goal.returns-clause-others
unfolding insert_of
returns-clause-others c words member other order apart =
    let place = (below_of words (length order.members + 1)).0 in
    omega (arith, sum_by-insert (λ (it : ℕ). one_if (it == other)) order.members place member, one_if-other member other apart)

pub returns-clause-probed : goal.returns-clause-probed
unfolding insert_of
returns-clause-probed c words member order sound absent =
    (put_keeps_others (below_of words (length order.members + 1)).0 member order sound.within absent).before

pub returns-clause-coming : goal.returns-clause-coming
unfolding insert_of
returns-clause-coming c words member order sound absent =
    (put_keeps_others (below_of words (length order.members + 1)).0 member order sound.within absent).behind
