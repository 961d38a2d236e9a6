-- A shuffle from words of 32 bits keeps the items.
use Rattle.std.proofs.Common.{◌≡◌, ℕ, zero, suc, ◌+◌, ◌-◌, ◌*◌, ◌^◌, ◌<◌, ◌≤◌, ◌==◌, true, false, nat_lt, List, length, refl, sym, arith, inl, inr}
use Rattle.std.proofs.Math.Nat.{mod-lt}
use Rattle.std.proofs.lemmas.Bool.{cases_lt}
use Rattle.std.proofs.lemmas.Bool.Decides.{nat_tests}
use Rattle.std.proofs.lemmas.List.Sorted.{IsPermutation-refl, IsPermutation-trans, IsPermutation-swap, length_permutation}
use Rattle.std.specs.List.Sorted.{IsPermutation}
use Rattle.rand_core.specs.Stream.{Stream, next_u32}
use Rattle.rand.specs.Uniform.{canon}
use Rattle.rand.specs.Shuffle.{rising, grow, chunk_of, Chooser, chooser_at, chooser_refill, chooser_next, narrow_swaps}
use Rattle.rand.proofs.ShuffleLemmas.{rising_more, rising_one, rising_positive, rest_below, last_below}
use Rattle.streams.specs.Draw.{Words, AreWords, answers_of, draw_from, shuffle_of}
use Rattle.streams.proofs.PlaceLemmas.{Reached, start, narrow_moves}
use Rattle.streams.proofs.RangeLemmas.{canon_fits}

-- a bound for several indices at once: the product of so many factors from m on, within a word
record IsChunk (m : ℕ) (chunk : ℕ × ℕ) : Type 0 where
  is_product : chunk.0 ≡ rising m chunk.1
  some : 0 < chunk.1
  fits : chunk.0 < 2 ^ 32

-- a product that grows by factors stays one
grow_holds : (m n product current count : ℕ) → current ≡ m + count → IsChunk m (product, count) → IsChunk m (grow n product current count)
unfolding grow
grow_holds m zero product current count factor held = held
grow_holds m (suc n) product current count factor held =
    elim (cases_lt (2 ^ 32 - 1) (product * current)) [
      | inl over ↦
          let test : nat_lt (2 ^ 32 - 1) (product * current) ≡ true = grind (arith, nat_tests) in
          rw test held
      | inr within ↦
          let test : nat_lt (2 ^ 32 - 1) (product * current) ≡ false = grind (arith, nat_tests) in
          let more : product * current ≡ rising m (count + 1) =
          rw (held.is_product, factor) (sym (rising_more m count)) in
          rw test (grow_holds m n (product * current) (current + 1) (count + 1) (omega arith)
          (record { is_product = more; some = omega arith; fits = omega arith }))
    ]

-- the largest product of factors from m on
chunk_holds : (m : ℕ) → m < 2 ^ 32 → IsChunk m (chunk_of m)
chunk_holds m fits =
    grow_holds m 32 m (m + 1) 1 refl (record { is_product = rising_one m; some = omega arith; fits = fits })

-- what is left of a draw serves the indices that it is still to give
abbrev Serves : Chooser → Type 0
Serves c = 0 < c.left → c.chunk < rising (c.n + 1) c.left

-- after a draw where none was left, something is left
abbrev IsServing : ℕ → ℕ × ℕ × Stream → Type 0
IsServing m refilled = (0 < refilled.1) × (refilled.0 < rising m refilled.1)

-- a chooser that was filled again, where nothing was left
refill_serves : (c : Chooser) (words : Words) (stream : Stream) → AreWords words → Reached words stream
    → c.n + 1 < 2 ^ 32 → Serves c → IsServing (c.n + 1) (chooser_refill c stream)
refill_serves c words stream fit here within serves =
    elim (cases_lt 0 c.left) [
      | inl some ↦
          let test : (c.left == 0) ≡ false = grind (arith, nat_tests) in
          rw test (some, serves some)
      | inr none ↦
          let test : (c.left == 0) ≡ true = grind (arith, nat_tests) in
          let chunk = chunk_of (c.n + 1) in
          let held : IsChunk (c.n + 1) chunk = chunk_holds (c.n + 1) within in
          let positive : 0 < chunk.0 = rw held.is_product (rising_positive (c.n + 1) chunk.1 (omega arith)) in
          let drawn = (canon (2 ^ 32) next_u32 chunk.0 stream).0 in
          let below : drawn < chunk.0 = canon_fits words stream chunk.0 fit here positive (omega (arith, held.fits)) in
          let below_product : drawn < rising (c.n + 1) chunk.1 = omega (arith, held.is_product) in
          rw test (held.some, below_product)
    ]

-- the next index is below the next bound, and what is left serves the others
record GivesIndex (c : Chooser) (next : ℕ × Chooser × Stream) : Type 0 where
  below : next.0 < c.n + 1
  bound : next.1.n ≡ c.n + 1
  serves : Serves next.1

-- the next index
chooser_gives : (c : Chooser) (words : Words) (stream : Stream) → AreWords words → Reached words stream
    → c.n + 1 < 2 ^ 32 → Serves c → GivesIndex c (chooser_next c stream)
chooser_gives c words stream fit here within serves =
    let r = chooser_refill c stream in
    let serving : IsServing (c.n + 1) r = refill_serves c words stream fit here within serves in
    elim (cases_lt 1 r.1) [
      | inl many ↦
          let test : (r.1 == 1) ≡ false = grind (arith, nat_tests) in
          let left = r.1 - 1 in
          let more : r.1 ≡ suc left = omega (arith, serving.0) in
          rw test (record {
            below = mod-lt r.0 (omega arith);
            bound = refl;
            serves = λ _. rest_below r.0 (c.n + 1) left (omega arith) (rw more at serving.1);
          })
      | inr last ↦
          let one : r.1 ≡ 1 = omega (arith, serving.0) in
          let test : (r.1 == 1) ≡ true = grind (arith, nat_tests) in
          rw test (record {
            below = last_below r.0 (c.n + 1) (rw one at serving.1);
            bound = refl;
            serves = λ some. absurd (omega arith);
          })
    ]

-- after so many swaps the items are the same, in some order
record KeepsItems (items : List ℕ) (k : ℕ) (after : List ℕ × Chooser × Stream) : Type 0 where
  bound : after.1.n ≡ k
  serves : Serves after.1
  kept : IsPermutation items after.0

-- so many swaps
swaps_keep : (items : List ℕ) (k : ℕ) (words : Words) (stream : Stream) → AreWords words → Reached words stream
    → length items < 2 ^ 32 → k ≤ length items → KeepsItems items k (narrow_swaps items (chooser_at 0) stream k)
unfolding narrow_swaps
swaps_keep items zero words stream fit here short within =
    record { bound = refl; serves = λ _. omega (arith, rising_one 1); kept = IsPermutation-refl items }
swaps_keep items (suc k) words stream fit here short within =
    let before = narrow_swaps items (chooser_at 0) stream k in
    let held : KeepsItems items k before = swaps_keep items k words stream fit here short (omega arith) in
    let there : Reached words before.2 = narrow_moves items (chooser_at 0) k words stream here in
    let next = chooser_next before.1 before.2 in
    let given : GivesIndex before.1 next =
    chooser_gives before.1 words before.2 fit there (omega (arith, held.bound)) held.serves in
    let size : length before.0 ≡ length items = length_permutation items before.0 held.kept in
    record {
      bound = omega (arith, held.bound, given.bound);
      serves = given.serves;
      kept = IsPermutation-trans items before.0 _ held.kept
          (IsPermutation-swap before.0 _ before.1.n next.0 (omega (arith, size, held.bound)) (omega (arith, size, held.bound, given.below)) refl);
    }

-- a shuffle
pub shuffle_keeps : (words : Words) (items : List ℕ) → AreWords words → length items < 2 ^ 32 - 1
    → IsPermutation items (shuffle_of words items).0
unfolding shuffle_of draw_from
shuffle_keeps words items fit short =
    elim (cases_lt 1 (length items)) [
      | inl many ↦
          let are_many : nat_lt 1 (length items) ≡ true = grind (arith, nat_tests) in
          let is_narrow : nat_lt (length items) (2 ^ 32 - 1) ≡ true = grind (arith, nat_tests) in
          let held = swaps_keep items (length items - 0) words (answers_of words) fit (start words) (omega arith) (omega arith) in
          rw (are_many, is_narrow) held.kept
      | inr few ↦
          let are_few : nat_lt 1 (length items) ≡ false = grind (arith, nat_tests) in
          rw are_few (IsPermutation-refl items)
    ]
