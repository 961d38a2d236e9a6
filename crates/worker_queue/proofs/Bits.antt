-- Marked places, word by word.
use Rattle.std.proofs.Common.{◌≡◌, ℕ, ◌+◌, ◌-◌, ◌*◌, ◌/◌, ◌%◌, ◌^◌, ◌<◌, ◌≤◌, ◌⊎◌, List, Option, Some, None, IfSome, slice_index, w64, ap, ◌∙◌, sym, inl, inr, arith}
use Rattle.std.specs.Option.{IfNone}
use Rattle.std.specs.Int.{bit_at, trailing_zeros}
use Rattle.std.proofs.Math.Nat.{div-div-eq-div-mul, div-le_self}
use Rattle.std.proofs.lemmas.Nat.{pow-add}
use Rattle.std.proofs.lemmas.Nat.Bits.{bit_at-trailing_zeros, bit_at-zero, bit_at_above}
use Rattle.std.proofs.lemmas.Bool.{cases_lt}
use Rattle.worker_queue.specs.Marks.{mark_at, NoneIsMarkedFrom, IsFirstMark}

-- the bits of a word that was shifted down
shifted : (n s i : ℕ) → bit_at (n / 2 ^ s) i ≡ bit_at n (s + i)
shifted n s i = ap (λ m. m % 2) (div-div-eq-div-mul n (2 ^ s) (2 ^ i) ∙ ap (λ m. n / m) (sym (pow-add 2 s i)))

module _ (words : List ℕ) where
  in_word : (w t k n : ℕ) → slice_index words w ≡ n → k / 64 ≡ w → k % 64 ≡ t → mark_at words k ≡ bit_at n t
  in_word w t k n here word rest = ap (λ u. bit_at (slice_index words u) (k % 64)) word ∙ ap (λ m. bit_at m (k % 64)) here ∙ ap (bit_at n) rest

  -- where no place before a word is marked, the lowest bit of the word is the first mark
  pub first_in_word : (from w n : ℕ) → slice_index words w ≡ n → 0 < n → n < 2 ^ 64 → w < 16 → from ≤ 64 * w → ((k : ℕ) → from ≤ k → k < 64 * w → mark_at words k ≡ 0)
      → IsFirstMark words from (64 * w + trailing_zeros w64 n)
  first_in_word from w n here some small within after none =
      let lowest = bit_at-trailing_zeros w64 n some small in
      let t = trailing_zeros w64 n in
      let below : t < 64 = lowest.0 in
      record {
        after = omega arith;
        below = omega arith;
        marked = in_word w t (64 * w + t) n here (omega arith) (omega arith) ∙ lowest.1;
        first = λ k from_on before. first k from_on before (cases_lt k (64 * w));
      }
    where
      first : (k : ℕ) → from ≤ k → k < 64 * w + trailing_zeros w64 n → (k < 64 * w) ⊎ (64 * w ≤ k) → mark_at words k ≡ 0
      first k from_on before (inl earlier) = none k from_on earlier
      first k from_on before (inr here_on) =
          let lowest = bit_at-trailing_zeros w64 n some small in
          let below : trailing_zeros w64 n < 64 = lowest.0 in
          in_word w (k - 64 * w) k n here (omega arith) (omega arith) ∙ lowest.2 (k - 64 * w) (omega arith)

  module _ (from n : ℕ) (here : slice_index words (from / 64) ≡ n) where
    -- the bits of its word from a place on
    later_bit : (k : ℕ) → from ≤ k → k / 64 ≡ from / 64 → mark_at words k ≡ bit_at (n / 2 ^ (from % 64)) (k - from)
    later_bit k after word =
        let rest : k % 64 ≡ from % 64 + (k - from) = omega arith in
        in_word (from / 64) (from % 64 + (k - from)) k n here word rest ∙ sym (shifted n (from % 64) (k - from))

    module _ (within : from < 1024) (t : ℕ) (marked : bit_at (n / 2 ^ (from % 64)) t ≡ 1) (lowest : (i : ℕ) → i < t → bit_at (n / 2 ^ (from % 64)) i ≡ 0) where
      first_at : from % 64 + t < 64 → IsFirstMark words from (from + t)
      first_at small =
          let rest : (from + t) - from ≡ t = omega arith in
          record {
            after = omega arith;
            below = omega arith;
            marked = later_bit (from + t) (omega arith) (omega arith) ∙ ap (bit_at (n / 2 ^ (from % 64))) rest ∙ marked;
            first = λ k after before. later_bit k after (omega arith) ∙ lowest (k - from) (omega arith);
          }

      within_word : n < 2 ^ 64 → (from % 64 + t < 64) ⊎ (64 ≤ from % 64 + t) → from % 64 + t < 64
      within_word small (inl h) = h
      within_word small (inr h) =
          let none : bit_at (n / 2 ^ (from % 64)) t ≡ 0 = shifted n (from % 64) t ∙ bit_at_above n 64 (from % 64 + t) small h in
          absurd (let e : 0 ≡ 1 = sym none ∙ marked in omega arith)

      pub later_first : n < 2 ^ 64 → IsFirstMark words from (from + t)
      later_first small = first_at (within_word small (cases_lt (from % 64 + t) 64))

    pub first_later : from < 1024 → n < 2 ^ 64 → 0 < n / 2 ^ (from % 64) → IsFirstMark words from (from + trailing_zeros w64 (n / 2 ^ (from % 64)))
    first_later within small some =
        let lowest = bit_at-trailing_zeros w64 (n / 2 ^ (from % 64)) some (let less = div-le_self n (2 ^ (from % 64)) in omega arith) in
        later_first within (trailing_zeros w64 (n / 2 ^ (from % 64))) lowest.1 lowest.2 small

    pub none_later : n / 2 ^ (from % 64) ≡ 0 → (k : ℕ) → from ≤ k → k < 64 * (from / 64 + 1) → mark_at words k ≡ 0
    none_later none k after before = later_bit k after (omega arith) ∙ ap (λ m. bit_at m (k - from)) none ∙ bit_at-zero (k - from)

    pub first_after : n / 2 ^ (from % 64) ≡ 0 → (o : Option ℕ) → IfSome o (λ place. IsFirstMark words (64 * (from / 64 + 1)) place) → IfSome o (λ place. IsFirstMark words from place)
    first_after none None first = tt
    first_after none (Some place) first =
        let after : 64 * (from / 64 + 1) ≤ place = first.after in
        record {
          after = omega arith;
          below = first.below;
          marked = first.marked;
          first = λ k from_on before. elim (cases_lt k (64 * (from / 64 + 1))) [ inl earlier ↦ none_later none k from_on earlier | inr later ↦ first.first k later before ];
        }

    pub none_after : n / 2 ^ (from % 64) ≡ 0 → (o : Option ℕ) → IfNone o (NoneIsMarkedFrom words (64 * (from / 64 + 1))) → IfNone o (NoneIsMarkedFrom words from)
    none_after none None rest = λ k from_on below. elim (cases_lt k (64 * (from / 64 + 1))) [ inl earlier ↦ none_later none k from_on earlier | inr later ↦ rest k later below ]
    none_after none (Some place) rest = tt
