-- A mix keeps the members and stays sound.
use Rattle.std.proofs.Common.{◌≡◌, ℕ, ◌+◌, ◌<◌, ◌≤◌, List, length, refl, ap, ◌∙◌, arith}
use Rattle.std.specs.List.Sorted.{IsPermutation}
use Rattle.std.proofs.lemmas.List.Sorted.{length_permutation}
use Rattle.streams.specs.Draw.{Words, AreWords, IsRestOf, below_of, shuffle_of}
use Rattle.streams.proofs.PlaceLemmas.{below_rest, shuffle_rest}
use Rattle.streams.proofs.RangeLemmas.{rest_fits, below_fits}
use Rattle.probing.specs.ProbeOrder.{ProbeOrder, IsSoundOrder}
use Rattle.probing.specs.Mixed.{mixed_of}
use Rattle.probing.proofs.SoundLemmas.{are_members-permutation, members_bounded}
use Rattle.probing.proofs.RoundLemmas.{shuffle_kept, rest_of_rest}

-- all members stay
pub mixed_same : (words : Words) (order : ProbeOrder) → AreWords words → IsSoundOrder order → IsPermutation order.members (mixed_of words order).0.members
unfolding mixed_of
mixed_same words order fit sound = shuffle_kept words order.members fit sound.listed

-- the words that are drawn from are the first ones
pub mixed_rest : (words : Words) (order : ProbeOrder) → IsRestOf words (mixed_of words order).1
unfolding mixed_of
mixed_rest words order =
    let left = (shuffle_of words order.members).1 in
    rest_of_rest words left (below_of left (length order.members + 1)).1 (shuffle_rest words order.members) (below_rest left (length order.members + 1))

-- the mark stays within the list
pub sound_mixed : (xs ys zs : List ℕ) (mark mark' : ℕ) → IsSoundOrder (record { members = xs; mark = mark }) → IsPermutation xs ys → zs ≡ ys → mark' < length xs + 1
    → IsSoundOrder (record { members = zs; mark = mark' })
sound_mixed xs ys zs mark mark' sound same is low =
    rw is record { listed = are_members-permutation xs ys same sound.listed; within = omega (arith, low, length_permutation xs ys same) }

pub mixed_sound : (words : Words) (order : ProbeOrder) → AreWords words → IsSoundOrder order → IsSoundOrder (mixed_of words order).0
unfolding mixed_of
mixed_sound words order fit sound =
    let xs = order.members in
    let left = (shuffle_of words xs).1 in
    let short = members_bounded xs sound.listed in
    let low = below_fits left (length xs + 1) (rest_fits words left fit (shuffle_rest words xs)) (omega arith) (omega (arith, short)) in
    sound_mixed xs (shuffle_of words xs).0 (shuffle_of words xs).0 order.mark (below_of left (length xs + 1)).0 sound (shuffle_kept words xs fit sound.listed) refl low

-- a mix by its two draws
pub mixed_from : (words left rest : Words) (xs ys zs : List ℕ) (mark mark' bound : ℕ) → (ys, left) ≡ shuffle_of words xs → zs ≡ ys → bound ≡ length xs + 1 → (mark', rest) ≡ below_of left bound
    → (record { members = zs; mark = mark' }, rest) ≡ mixed_of words (record { members = xs; mark = mark })
unfolding mixed_of
mixed_from words left rest xs ys zs mark mark' bound shuffled is all drawn =
    ap (λ (l : List ℕ). (record { members = l; mark = mark' }, rest)) is
    ∙ ap (λ (p : ℕ × Words). (record { members = ys; mark = p.0 }, p.1)) (drawn ∙ ap (below_of left) all)
    ∙ ap (λ (p : List ℕ × Words). (record { members = p.0; mark = (below_of p.1 (length xs + 1)).0 }, (below_of p.1 (length xs + 1)).1)) shuffled
