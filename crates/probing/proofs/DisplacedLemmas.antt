-- A new member that takes another one's place is there once, and the others stay.
use Rattle.std.proofs.Common.{◌≡◌, ◌≢◌, ℕ, ◌+◌, ◌^◌, ◌<◌, ◌≤◌, ◌==◌, Bool, true, false, if◌then◌else◌, List, [], ◌∷◌, ◌++◌, length, length-append, refl, sym, ap, ◌∙◌, inl, inr, arith}
use Rattle.std.specs.List.{swap}
use Rattle.std.specs.List.Sorted.{IsPermutation}
use Rattle.std.proofs.lemmas.Bool.{cases_Bool, eqb-true, ne_eqb}
use Rattle.std.proofs.lemmas.List.Edits.{length-swap}
use Rattle.std.proofs.lemmas.List.Sums.{sum_by-append}
use Rattle.std.proofs.lemmas.List.Sorted.{IsPermutation-swap, sum_by-IsPermutation}
use Rattle.streams.specs.Draw.{Words, AreWords, IsRestOf, below_of}
use Rattle.streams.proofs.PlaceLemmas.{rest_after-zero, either_holds, below_rest}
use Rattle.streams.proofs.RangeLemmas.{below_fits}
use Rattle.probing.specs.ProbeOrder.{ProbeOrder, AreMembers, IsSoundOrder, times_in}
use Rattle.probing.specs.Displaced.{place_among, displaced_of}
use Rattle.probing.proofs.SoundLemmas.{one_if, times_in-cons, are_members-more, members_bounded}

-- the place lies before the one that is put at the end, or is its own
place_low : (words : Words) (count : ℕ) → AreWords words → count ≤ 2 ^ 16 → (place_among words count).0 < count + 1
place_low words count fit few =
    elim (cases_Bool (count == 0)) [
      | inl none ↦ rw none (omega arith)
      | inr some ↦ rw some (omega (arith, below_fits words count fit (positive some) (omega (arith, few))))
    ]
  where
    positive : (count == 0) ≡ false → 1 ≤ count
    positive some = grind (arith, some)

pub place_rest : (words : Words) (count : ℕ) → IsRestOf words (place_among words count).1
place_rest words count =
    either_holds (λ (p : ℕ × Words). IsRestOf words p.1) (count == 0) (0, words) (below_of words count) (0, rest_after-zero words) (below_rest words count)

-- one more at the end
counted_more : (xs : List ℕ) (m k : ℕ) → times_in (xs ++ m ∷ []) k ≡ times_in xs k + one_if (m == k)
counted_more xs m k =
    let none : ◌≡◌ {A = ℕ} (times_in [] k) 0 = refl in
    omega (arith, sum_by-append (λ other. one_if (other == k)) xs (m ∷ []), times_in-cons m [] k, none)

-- which changes places with another
pub counted_swapped : (xs ys : List ℕ) (m place k : ℕ) → place < length xs + 1 → ys ≡ swap (xs ++ m ∷ []) place (length xs) → times_in ys k ≡ times_in xs k + one_if (m == k)
counted_swapped xs ys m place k low is =
    let long : length (xs ++ m ∷ []) ≡ length xs + 1 = length-append xs (m ∷ []) in
    let same = IsPermutation-swap (xs ++ m ∷ []) ys place (length xs) (omega (arith, long, low)) (omega (arith, long)) is in
    sum_by-IsPermutation (λ other. one_if (other == k)) (xs ++ m ∷ []) ys same ∙ counted_more xs m k

pub length_swapped : (xs ys : List ℕ) (m place : ℕ) → ys ≡ swap (xs ++ m ∷ []) place (length xs) → length ys ≡ length xs + 1
length_swapped xs ys m place is = ap length is ∙ length-swap (xs ++ m ∷ []) place (length xs) ∙ length-append xs (m ∷ [])

pub sound_swapped : (xs ys : List ℕ) (m place mark : ℕ) → IsSoundOrder (record { members = xs; mark = mark }) → place < length xs + 1 → ys ≡ swap (xs ++ m ∷ []) place (length xs)
    → m < 2 ^ 16 → times_in xs m ≡ 0 → IsSoundOrder (record { members = ys; mark = mark })
sound_swapped xs ys m place mark sound low is small absent = record {
  listed = are_members-more xs ys m (λ k. counted_swapped xs ys m place k low is) small absent sound.listed;
  within = omega (arith, sound.within, length_swapped xs ys m place is);
}

pub displaced_sound : (words : Words) (member : ℕ) (order : ProbeOrder) → AreWords words → IsSoundOrder order → member < 2 ^ 16 → times_in order.members member ≡ 0
    → IsSoundOrder (displaced_of words member order).0
unfolding displaced_of
displaced_sound words member order fit sound small absent =
    sound_swapped order.members _ member (place_among words (length order.members)).0 order.mark sound
    (place_low words (length order.members) fit (members_bounded order.members sound.listed)) refl small absent

pub displaced_counted : (words : Words) (member q : ℕ) (order : ProbeOrder) → AreWords words → IsSoundOrder order
    → times_in (displaced_of words member order).0.members q ≡ times_in order.members q + one_if (member == q)
unfolding displaced_of
displaced_counted words member q order fit sound =
    counted_swapped order.members _ member (place_among words (length order.members)).0 q
    (place_low words (length order.members) fit (members_bounded order.members sound.listed)) refl

pub displaced_rest : (words : Words) (member : ℕ) (order : ProbeOrder) → IsRestOf words (displaced_of words member order).1
unfolding displaced_of
displaced_rest words member order = place_rest words (length order.members)
