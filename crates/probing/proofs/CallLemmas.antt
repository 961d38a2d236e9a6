-- What a call leaves, over the list and the mark that the code reaches.
use Rattle.std.proofs.Common.{◌≡◌, ◌≢◌, ℕ, ◌+◌, ◌-◌, ◌^◌, ◌<◌, ◌≤◌, ◌==◌, Bool, true, false, nat_lt, if◌then◌else◌, List, [], ◌∷◌, length, slice_get, Option, Some, position, insert, remove, refl, sym, ap, ◌∙◌, arith}
use Rattle.std.specs.List.{All}
use Rattle.std.specs.List.Sorted.{IsPermutation}
use Rattle.std.proofs.lemmas.Bool.{ne_eqb, eq-eqb}
use Rattle.std.proofs.lemmas.Bool.Decides.{nat_tests}
use Rattle.std.proofs.lemmas.List.Edits.{length-insert, length-remove}
use Rattle.std.proofs.lemmas.List.Elements.{All-head, All-tail}
use Rattle.std.proofs.lemmas.List.Quantifiers.{position-Some}
use Rattle.std.proofs.lemmas.List.Sorted.{length_permutation}
use Rattle.streams.specs.Draw.{Words, shuffle_of}
use Rattle.probing.specs.ProbeOrder.{ProbeOrder, NoRepeats, AreMembers, IsSoundOrder, times_in, ready_of, probed_at, next_of}
use Rattle.probing.proofs.SoundLemmas.{times_in-cons, one_if-other, are_members-permutation, are_members-insert, are_members-remove}

-- numbers below 2^16 only
none_above : (xs : List ℕ) → All (λ (x : ℕ). x < 2 ^ 16) xs → (m : ℕ) → 2 ^ 16 ≤ m → times_in xs m ≡ 0
none_above [] low m high = refl
none_above (x ∷ xs) low m high =
    let below : x < 2 ^ 16 = All-head (λ (y : ℕ). y < 2 ^ 16) x xs low in
    omega (
      arith,
      times_in-cons x xs m,
      one_if-other x m (λ same. omega arith),
      none_above xs (All-tail (λ (y : ℕ). y < 2 ^ 16) x xs low) m high,
    )

-- a new rota
pub sound_of : (xs ys : List ℕ) (mark : ℕ) → NoRepeats xs → ys ≡ xs → All (λ (x : ℕ). x < 2 ^ 16) ys → mark ≡ length xs
    → IsSoundOrder (record { members = xs; mark = mark })
sound_of xs ys mark distinct same low end = record {
  listed = record { distinct = distinct; numbers = none_above xs (rw same at low) };
  within = omega (arith, end);
}

-- the list and the mark from which the next member is taken
pub record IsReady (words : Words) (order : ProbeOrder) (words' : Words) (members : List ℕ) (mark : ℕ) : Type 0 where
  pub listed : AreMembers members
  pub within : mark < length members
  pub is : (record { members = members; mark = mark }, words') ≡ ready_of words order

-- after a shuffle
pub ready_after_shuffle : (words words' : Words) (xs ys zs : List ℕ) (mark : ℕ) → IsSoundOrder (record { members = xs; mark = mark })
    → 0 < length xs → mark ≡ length xs → IsPermutation xs ys → (ys, words') ≡ shuffle_of words xs → zs ≡ ys
    → IsReady words (record { members = xs; mark = mark }) words' zs 0
ready_after_shuffle words words' xs ys zs mark sound some end same drawn is =
    let over : (mark == length xs) ≡ true = eq-eqb mark (length xs) end in
    rw is record {
      listed = are_members-permutation xs ys same sound.listed;
      within = omega (arith, length_permutation xs ys same);
      is = rw over (ap (λ (p : List ℕ × Words). (record { members = p.0; mark = 0 }, p.1)) drawn);
    }

-- with no shuffle
pub ready_within : (words : Words) (xs : List ℕ) (mark : ℕ) → IsSoundOrder (record { members = xs; mark = mark }) → mark ≢ length xs
    → IsReady words (record { members = xs; mark = mark }) words xs mark
ready_within words xs mark sound before =
    let during : (mark == length xs) ≡ false = ne_eqb mark (length xs) before in
    record {
      listed = sound.listed;
      within = omega (arith, sound.within, before);
      is = rw during refl;
    }

-- then the member at the mark is the answer
pub next_from_ready : (words words' : Words) (order : ProbeOrder) (members : List ℕ) (mark member : ℕ) → 0 < length order.members
    → IsReady words order words' members mark → slice_get members mark ≡ Some member
    → (Some member, record { members = members; mark = mark + 1 }, words') ≡ next_of words order
unfolding next_of
next_from_ready words words' order members mark member some ready read =
    let full : (length order.members == 0) ≡ false = ne_eqb (length order.members) 0 (omega arith) in
    rw full (
    ap (λ (o : Option ℕ). (o, record { members = members; mark = mark + 1 }, words')) (sym read)
    ∙ ap probed_at ready.is
    )

-- a member put at a place
pub sound_inserted : (xs ys zs : List ℕ) (place m mark mark' : ℕ) (fits : Bool) → IsSoundOrder (record { members = xs; mark = mark })
    → ys ≡ xs → zs ≡ (if fits then insert ys place m else ys) → fits ≡ true → place ≤ length xs → mark' ≤ mark + 1
    → m < 2 ^ 16 → times_in xs m ≡ 0 → IsSoundOrder (record { members = zs; mark = mark' })
sound_inserted xs ys zs place m mark mark' fits sound same put room within near low absent =
    let is : zs ≡ insert xs place m = put ∙ rw (room, same) refl in
    rw is record {
      listed = are_members-insert xs place m low absent sound.listed;
      within = omega (arith, length-insert xs place m within, sound.within, near);
    }

-- a member taken out of its place
pub sound_removed : (xs ys zs : List ℕ) (m place mark mark' : ℕ) → IsSoundOrder (record { members = xs; mark = mark })
    → zs ≡ xs → Some place ≡ position (λ other. other == m) zs → ys ≡ remove xs place
    → mark' ≤ mark - (if nat_lt place mark then 1 else 0) → IsSoundOrder (record { members = ys; mark = mark' })
sound_removed xs ys zs m place mark mark' sound same here is near =
    let found : place < length zs = (position-Some (λ other. other == m) zs place 0 (sym here)).0 in
    let within : place < length xs = rw same at found in
    let fewer = length-remove xs place within in
    rw is record {
      listed = are_members-remove xs place within sound.listed;
      within = grind (arith, nat_tests, near, fewer, sound.within);
    }
