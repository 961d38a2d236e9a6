-- A number below a bound is the next words, read as a fraction, times the bound.
use Rattle.std.proofs.Common.{◌≡◌, ℕ, ◌+◌, ◌-◌, ◌*◌, ◌/◌, ◌%◌, ◌^◌, ◌<◌, ◌≤◌, ◌==◌, true, false, nat_lt, nat_le, sym, ◌∙◌, arith, inl, inr}
use Rattle.std.proofs.Math.Nat.{mod-lt}
use Rattle.std.proofs.lemmas.Nat.{mul-le, div_below, div-add-mod', div-mul-add}
use Rattle.std.proofs.lemmas.Bool.{cases_lt}
use Rattle.std.proofs.lemmas.Bool.Decides.{nat_tests}
use Rattle.rand_core.specs.Stream.{next_u32}
use Rattle.rand_core.specs.Steps.{stream_of}
use Rattle.rand.specs.Uniform.{canon}
use Rattle.streams.specs.Draw.{Words, AreWords, rest_after, answers_of, draw_from, below_of}
use Rattle.streams.proofs.DrawLemmas.{words_in-answers_of}
use Rattle.streams.proofs.PlaceLemmas.{rest-rest}

-- the whole part of a number of m-ths
whole_part : (m total high low : ℕ) → total ≡ high * m + low → low < m → total / m ≡ high
whole_part m total high low sum below = rw sum (div-mul-add high m low below)

-- a word's part of the bound
part_below : (word bound : ℕ) → word < 2 ^ 32 → 0 < bound → word * bound / 2 ^ 32 < bound
part_below word bound fits some =
    let scaled : (word + 1) * bound ≤ 2 ^ 32 * bound = mul-le (word + 1) bound (2 ^ 32) bound (omega arith) (omega arith) in
    div_below (word * bound) (2 ^ 32) bound (omega arith) (omega arith)

-- the number
pub below_value : (words : Words) (bound : ℕ) → AreWords words → 1 ≤ bound → bound ≤ 2 ^ 32
    → (below_of words bound).0 ≡ (words 0 * bound + words 1 * bound / 2 ^ 32) / 2 ^ 32
unfolding below_of draw_from canon next_u32 answers_of stream_of
below_value words bound fit some within =
    let high = words 0 * bound / 2 ^ 32 in
    let low = words 0 * bound % 2 ^ 32 in
    let more = words 1 * bound / 2 ^ 32 in
    let total = words 0 * bound + more in
    let product : high * 2 ^ 32 + low ≡ words 0 * bound = div-add-mod' (words 0 * bound) (2 ^ 32) in
    let low_fits : low < 2 ^ 32 = mod-lt (words 0 * bound) (omega arith) in
    let high_fits : high < bound = part_below (words 0) bound (fit 0) some in
    let more_fits : more < bound = part_below (words 1) bound (fit 1) some in
    elim (cases_lt 1 bound) [
      | inr one ↦
          let is_one : (bound == 1) ≡ true = grind (arith, nat_tests) in
          rw is_one (sym (whole_part (2 ^ 32) total 0 (low + more) (omega arith) (omega arith)))
      | inl many ↦
          let is_many : (bound == 1) ≡ false = grind (arith, nat_tests) in
          elim (cases_lt (2 ^ 32 - bound) low) [
            | inr plain ↦
                let closed : nat_lt (2 ^ 32 - bound) low ≡ false = grind (arith, nat_tests) in
                rw (is_many, closed) (sym (whole_part (2 ^ 32) total high (low + more) (omega arith) (omega arith)))
            | inl open_yet ↦
                let carries : nat_lt (2 ^ 32 - bound) low ≡ true = grind (arith, nat_tests) in
                elim (cases_lt (low + more) (2 ^ 32)) [
                  | inl stays ↦
                      let stay : nat_le (2 ^ 32) (low + more) ≡ false = grind (arith, nat_tests) in
                      rw (is_many, carries, stay) (sym (whole_part (2 ^ 32) total high (low + more) (omega arith) (omega arith)))
                  | inr rises ↦
                      let rise : nat_le (2 ^ 32) (low + more) ≡ true = grind (arith, nat_tests) in
                      rw (is_many, carries, rise)
                      (sym (whole_part (2 ^ 32) total (high + 1) (low + more - 2 ^ 32) (omega arith) (omega arith)))
                ]
          ]
    ]

-- the words that are left where nothing could carry
pub below_one_word : (words : Words) (bound : ℕ) → 1 < bound → words 0 * bound % 2 ^ 32 ≤ 2 ^ 32 - bound
    → (below_of words bound).1 ≡ rest_after 1 words
unfolding below_of draw_from canon next_u32 answers_of stream_of
below_one_word words bound many plain =
    let is_many : (bound == 1) ≡ false = grind (arith, nat_tests) in
    let closed : nat_lt (2 ^ 32 - bound) (words 0 * bound % 2 ^ 32) ≡ false = grind (arith, nat_tests) in
    rw (is_many, closed) (words_in-answers_of (rest_after 1 words))

-- the words that are left where something could
pub below_two_words : (words : Words) (bound : ℕ) → 1 < bound → 2 ^ 32 - bound < words 0 * bound % 2 ^ 32
    → (below_of words bound).1 ≡ rest_after 2 words
unfolding below_of draw_from canon next_u32 answers_of stream_of
below_two_words words bound many open_yet =
    let is_many : (bound == 1) ≡ false = grind (arith, nat_tests) in
    let carries : nat_lt (2 ^ 32 - bound) (words 0 * bound % 2 ^ 32) ≡ true = grind (arith, nat_tests) in
    rw (is_many, carries) (words_in-answers_of (rest_after 1 (rest_after 1 words)) ∙ rest-rest 1 1 words)
