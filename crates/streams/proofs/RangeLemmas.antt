-- Words have 32 bits, and a number that is drawn from them is below its bound.
use Rattle.std.proofs.Common.{◌≡◌, ℕ, ◌+◌, ◌-◌, ◌*◌, ◌/◌, ◌%◌, ◌^◌, ◌<◌, ◌≤◌, ◌==◌, true, false, nat_lt, nat_le, refl, sym, ap, ◌∙◌, arith, inl, inr}
use Rattle.std.proofs.Math.Nat.{div-le_self, mod-lt}
use Rattle.std.proofs.lemmas.Nat.{mul-le, div_below, div-add-mod', or_of_32}
use Rattle.std.proofs.lemmas.Bool.{cases_lt}
use Rattle.std.proofs.lemmas.Bool.Decides.{nat_tests}
use Rattle.std.specs.Prelude.{bit_xor}
use Rattle.rand_core.specs.Stream.{Stream, next_u32}
use Rattle.rand.specs.Uniform.{canon}
use Rattle.rand.proofs.UniformLemmas.{carry_room}
use Rattle.rand_pcg.specs.Lcg.{Lcg, state_after}
use Rattle.rand_pcg.specs.Pcg.{multiplier_64, output_xsh_rr}
use Rattle.streams.specs.Draw.{Words, AreWords, IsRestOf, rest_after, words_of, answers_of, draw_from, below_of, lost_of}
use Rattle.streams.proofs.PlaceLemmas.{Reached, next_u32-answers_of, either_holds, start}

-- PCG32's output is a word
output_fits : (state : ℕ) → output_xsh_rr state < 2 ^ 32
output_fits state =
    let mixed = bit_xor (state / 2 ^ 18) state / 2 ^ 27 % 2 ^ 32 in
    let mixed_fits : mixed < 2 ^ 32 = mod-lt (bit_xor (state / 2 ^ 18) state / 2 ^ 27) (omega arith) in
    let turn = state / 2 ^ 59 % 32 in
    let low : mixed / 2 ^ turn ≤ mixed = div-le_self mixed (2 ^ turn) in
    or_of_32 (mixed / 2 ^ turn) (mixed * 2 ^ ((32 - turn) % 32) % 2 ^ 32) (omega arith)
    (mod-lt (mixed * 2 ^ ((32 - turn) % 32)) (omega arith))

-- a generator's words
pub words_of_fit : (generator : Lcg) → AreWords (words_of generator)
unfolding words_of
words_of_fit generator place = output_fits (state_after 64 multiplier_64 generator.increment place generator.state)

-- a rest of words is words
pub rest_fits : (words rest : Words) → AreWords words → IsRestOf words rest → AreWords rest
rest_fits words rest fit (n, is_rest) place =
    let same : rest place ≡ words (place + n) = ap (λ (w : Words). w place) is_rest in
    let there : words (place + n) < 2 ^ 32 = fit (place + n) in
    omega arith

-- the next word of a stream that answers from some place of words
pub next_fits : (words : Words) (stream : Stream) → AreWords words → Reached words stream → (next_u32 stream).0 < 2 ^ 32
next_fits words stream fit (n, here) =
    let is_word : (next_u32 stream).0 ≡ words (0 + n) =
    ap (λ (s : Stream). (next_u32 s).0) here
    ∙ ap (λ (p : ℕ × Stream). p.0) (next_u32-answers_of (rest_after n words)) in
    let there : words (0 + n) < 2 ^ 32 = fit (0 + n) in
    omega arith

-- Canon's method gives a number below the range
pub canon_fits : (words : Words) (stream : Stream) (range : ℕ) → AreWords words → Reached words stream
    → 0 < range → range ≤ 2 ^ 32 → (canon (2 ^ 32) next_u32 range stream).0 < range
unfolding canon
canon_fits words stream range fit here some within =
    let w = (next_u32 stream).0 in
    let high = w * range / 2 ^ 32 in
    let low = w * range % 2 ^ 32 in
    let w_fits : w < 2 ^ 32 = next_fits words stream fit here in
    let product : high * 2 ^ 32 + low ≡ w * range = div-add-mod' (w * range) (2 ^ 32) in
    let scaled : (w + 1) * range ≤ 2 ^ 32 * range = mul-le (w + 1) range (2 ^ 32) range (omega arith) (omega arith) in
    let high_fits : high < range = div_below (w * range) (2 ^ 32) range (omega arith) (omega arith) in
    elim (cases_lt (2 ^ 32 - range) low) [
      | inl carries ↦
          let test : nat_lt (2 ^ 32 - range) low ≡ true = grind (arith, nat_tests) in
          let room : high + 1 < range = carry_room (2 ^ 32) range w high low w_fits product carries within in
          let v = (next_u32 (next_u32 stream).1).0 in
          rw test (either_holds (λ (n : ℕ). n < range) (nat_le (2 ^ 32) (low + v * range / 2 ^ 32)) (high + 1) high room high_fits)
      | inr plain ↦
          let test : nat_lt (2 ^ 32 - range) low ≡ false = grind (arith, nat_tests) in
          rw test high_fits
    ]

-- a number below a bound
pub below_fits : (words : Words) (bound : ℕ) → AreWords words → 1 ≤ bound → bound ≤ 2 ^ 32 → (below_of words bound).0 < bound
unfolding below_of draw_from
below_fits words bound fit some within =
    elim (cases_lt 1 bound) [
      | inl many ↦
          let test : (bound == 1) ≡ false = grind (arith, nat_tests) in
          rw test (canon_fits words (answers_of words) bound fit (start words) (omega arith) within)
      | inr one ↦
          let test : (bound == 1) ≡ true = grind (arith, nat_tests) in
          rw test (omega arith)
    ]

-- a loss, whether it takes a word or not
pub lost_value : (words : Words) (parts : ℕ) → AreWords words → (lost_of words parts).0 ≡ nat_lt (below_of words 1000000).0 parts
unfolding lost_of
lost_value words parts fit =
    let number = (below_of words 1000000).0 in
    let below : number < 1000000 = below_fits words 1000000 fit (omega arith) (omega arith) in
    elim (cases_lt 0 parts) [
      | inr none ↦
          let never : (parts == 0) ≡ true = grind (arith, nat_tests) in
          let over : nat_lt number parts ≡ false = grind (arith, nat_tests) in
          rw never (sym over)
      | inl some ↦
          let known : (parts == 0) ≡ false = grind (arith, nat_tests) in
          elim (cases_lt parts 1000000) [
            | inr all ↦
                let always : nat_le 1000000 parts ≡ true = grind (arith, nat_tests) in
                let under : nat_lt number parts ≡ true = grind (arith, nat_tests) in
                rw (known, always) (sym under)
            | inl short ↦
                let drawn : nat_le 1000000 parts ≡ false = grind (arith, nat_tests) in
                rw (known, drawn) refl
          ]
    ]
