use Rattle.std.proofs.Common.{◌≡◌, ℕ, length, map, Some, refl, ap, ◌∙◌, arith}
use Rattle.std.proofs.lemmas.List.Sorted.{IsPermutation-map}
use Rattle.streams.specs.Draw.{Words, AreWords, shuffle_of}
use Rattle.probing.specs.ProbeOrder.{ProbeOrder, IsSoundOrder, round_over}
use Rattle.probing.specs.Rounds.{probes_of}
use Rattle.probing.proofs.RoundLemmas.{shuffle_kept, probes_within, probes_of_a_round}
use Rattle.probing.proofs.laws.a_round_probes_each_member_once.Goals as goal

-- a round from an order whose mark is at its end
round_here : (words : Words) (order : ProbeOrder) → AreWords words → IsSoundOrder order → order.mark ≡ length order.members
    → probes_of (length order.members) words order
    ≡ (map Some (shuffle_of words order.members).0, round_over (shuffle_of words order.members).0, (shuffle_of words order.members).1)
round_here words order fit sound end =
    ap (λ (mark : ℕ). probes_of (length order.members) words (record { members = order.members; mark = mark })) end
    ∙ probes_of_a_round (length order.members) words order.members refl fit sound.listed

pub returns-clause-round : goal.returns-clause-round
returns-clause-round c words order fit sound end = round_here words order fit sound end

pub returns-clause-once : goal.returns-clause-once
returns-clause-once c words order fit sound end =
    rw (round_here words order fit sound end)
    (IsPermutation-map (λ (m : ℕ). Some m) order.members (shuffle_of words order.members).0 (shuffle_kept words order.members fit sound.listed))

pub returns-clause-rest : goal.returns-clause-rest
returns-clause-rest c words order sound =
    probes_within _ words order.members order.mark (omega (arith, sound.within))
