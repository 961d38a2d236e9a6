use Rattle.std.proofs.Common.{ℕ, ◌+◌, ◌*◌, ◌==◌, length, Option}
use Rattle.streams.specs.Draw.{Words, IsRestOf}
use Rattle.streams.proofs.PlaceLemmas.{rest_after-zero, either_holds, below_rest, shuffle_rest}
use Rattle.probing.specs.ProbeOrder.{ProbeOrder, ready_of, next_of, insert_of, helpers_of}
use Rattle.probing.specs.Samples.{sample_of}
use Rattle.probing.proofs.MixedLemmas.{mixed_rest}
use Rattle.probing.proofs.DisplacedLemmas.{displaced_rest}
use Rattle.probing.proofs.SampleLemmas.{sampled_rest}
use Rattle.probing.proofs.laws.calls_take_the_first_words.Goals as goal

-- no draw
stays : (words : Words) → IsRestOf words words
stays words = (0, rest_after-zero words)

-- the shuffle before a probe, or none
ready_rest : (words : Words) (order : ProbeOrder) → IsRestOf words (ready_of words order).1
ready_rest words order =
    either_holds (λ (p : ProbeOrder × Words). IsRestOf words p.1) (order.mark == length order.members) _ _
    (shuffle_rest words order.members) (stays words)

pub returns-clause-next : goal.returns-clause-next
unfolding next_of
returns-clause-next c words order =
    either_holds (λ (p : Option ℕ × ProbeOrder × Words). IsRestOf words p.2) (length order.members == 0) _ _
    (stays words) (ready_rest words order)

pub returns-clause-mix : goal.returns-clause-mix
returns-clause-mix c = mixed_rest

pub returns-clause-insert : goal.returns-clause-insert
unfolding insert_of
returns-clause-insert c words member order = below_rest words (length order.members + 1)

pub returns-clause-displace : goal.returns-clause-displace
returns-clause-displace c = displaced_rest

pub returns-clause-helpers : goal.returns-clause-helpers
unfolding helpers_of
returns-clause-helpers c words count candidates = shuffle_rest words candidates

pub returns-clause-sample : goal.returns-clause-sample
unfolding sample_of
returns-clause-sample c words k candidates = sampled_rest (3 * length candidates) k candidates words
