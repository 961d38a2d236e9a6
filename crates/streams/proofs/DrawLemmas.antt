-- What a generator answers to its callers is what its words say, and the other way round.
use Rattle.std.proofs.Common.{◌≡◌, ℕ, zero, suc, ◌+◌, ◌*◌, ◌/◌, ◌^◌, ◌<◌, ◌≤◌, ◌==◌, pos, ◌-ℤ◌, true, false, nat_lt, nat_le, List, [], ◌∷◌, ◌++◌, length, replicate, take, refl, sym, ap, ◌∙◌, add-one, arith}
use Rattle.std.proofs.Math.Path.{fun_ext}
use Rattle.std.proofs.lemmas.Bool.Decides.{nat_tests}
use Rattle.std.proofs.lemmas.Int.{ints}
use Rattle.std.specs.Int.{w32, to_le_bytes}
use Rattle.std.specs.Int.RustNames.{unsigned_abs}
use Rattle.rand_core.specs.Stream.{Call, u32_call, u64_call, bytes_call, Stream, next_u32}
use Rattle.rand_core.specs.Steps.{steps_u32, stream_of, state_after, u64_via_u32, word_bytes, fill_via_u32}
use Rattle.rand.specs.Uniform.{canon, DrawsBetween}
use Rattle.rand.specs.Shuffle.{shuffled}
use Rattle.rand_pcg.specs.Lcg.{Lcg, state_after as lcg_state_after}
use Rattle.rand_pcg.specs.Pcg.{pcg32}
use Rattle.streams.specs.Draw.{Words, rest_after, words_of, next_word, answers_of, words_in, draw_from, below_of, lost_of, shuffle_of}

-- the words of a generator, word for word
pub next_word-words_of : (generator : Lcg) → next_word (words_of generator) ≡ ((pcg32 generator).0, words_of (pcg32 generator).1)
unfolding words_of lcg_state_after
next_word-words_of generator =
    ap (λ (rest : Words). ((pcg32 generator).0, rest))
    (fun_ext (λ place. ap (λ (n : ℕ). words_of generator n) (add-one place)))

-- the bytes of these words, and the words that are left
pub word_bytes-words_of : (k : ℕ) (generator : Lcg)
    → word_bytes (to_le_bytes w32) next_word k (words_of generator)
    ≡ ((word_bytes (to_le_bytes w32) pcg32 k generator).0, words_of (word_bytes (to_le_bytes w32) pcg32 k generator).1)
unfolding word_bytes
word_bytes-words_of zero generator = refl
word_bytes-words_of (suc k) generator =
    ap (λ (before : List ℕ × Words). (before.0 ++ to_le_bytes w32 (next_word before.1).0, (next_word before.1).1))
    (word_bytes-words_of k generator)
    ∙ ap (λ (now : ℕ × Words). ((word_bytes (to_le_bytes w32) pcg32 k generator).0 ++ to_le_bytes w32 now.0, now.1))
    (next_word-words_of (word_bytes (to_le_bytes w32) pcg32 k generator).1)

-- two words, and the words that are left
pub u64-words_of : (generator : Lcg)
    → u64_via_u32 next_word (words_of generator) ≡ ((u64_via_u32 pcg32 generator).0, words_of (u64_via_u32 pcg32 generator).1)
u64-words_of generator =
    ap (λ (first : ℕ × Words). (first.0 + (next_word first.1).0 * 2 ^ 32, (next_word first.1).1)) (next_word-words_of generator)
    ∙ ap (λ (second : ℕ × Words). ((pcg32 generator).0 + second.0 * 2 ^ 32, second.1))
    (next_word-words_of (pcg32 generator).1)

-- the words that are left after these calls
pub state_after-words_of : (calls : List Call) (generator : Lcg)
    → state_after (steps_u32 next_word) calls (words_of generator) ≡ words_of (state_after (steps_u32 pcg32) calls generator)
state_after-words_of [] generator = refl
state_after-words_of (u32_call ∷ calls) generator =
    ap (λ (p : ℕ × Words). state_after (steps_u32 next_word) calls p.1) (next_word-words_of generator)
    ∙ state_after-words_of calls (pcg32 generator).1
state_after-words_of (u64_call ∷ calls) generator =
    ap (λ (p : ℕ × Words). state_after (steps_u32 next_word) calls p.1) (u64-words_of generator)
    ∙ state_after-words_of calls (u64_via_u32 pcg32 generator).1
state_after-words_of (bytes_call n ∷ calls) generator =
    ap (λ (p : List ℕ × Words). state_after (steps_u32 next_word) calls p.1) (word_bytes-words_of ((n + 3) / 4) generator)
    ∙ state_after-words_of calls (fill_via_u32 pcg32 n generator).1

-- a generator answers what its words say
pub answers_of-words_of : (generator : Lcg) → answers_of (words_of generator) ≡ stream_of (steps_u32 pcg32) generator
unfolding answers_of stream_of
answers_of-words_of generator =
    let here = stream_of (steps_u32 pcg32) generator in
    let there = answers_of (words_of generator) in
    let u32_same : there.u32_after ≡ here.u32_after =
    fun_ext (λ calls.
    ap (λ (words : Words). words 0) (state_after-words_of calls generator)
    ∙ ap (λ (p : ℕ × Words). p.0) (next_word-words_of (state_after (steps_u32 pcg32) calls generator))) in
    let u64_same : there.u64_after ≡ here.u64_after =
    fun_ext (λ calls.
    ap (λ (words : Words). (u64_via_u32 next_word words).0) (state_after-words_of calls generator)
    ∙ ap (λ (p : ℕ × Words). p.0) (u64-words_of (state_after (steps_u32 pcg32) calls generator))) in
    let bytes_same : there.bytes_after ≡ here.bytes_after =
    fun_ext (λ calls. fun_ext (λ n.
    ap (λ (words : Words). (fill_via_u32 next_word n words).0) (state_after-words_of calls generator)
    ∙ ap (λ (p : List ℕ × Words). take n p.0)
    (word_bytes-words_of ((n + 3) / 4) (state_after (steps_u32 pcg32) calls generator)))) in
    ap (λ (u32_after : List Call → ℕ). record { u32_after = u32_after; u64_after = there.u64_after; bytes_after = there.bytes_after }) u32_same
    ∙ ap (λ (u64_after : List Call → ℕ). record { u32_after = here.u32_after; u64_after = u64_after; bytes_after = there.bytes_after }) u64_same
    ∙ ap (λ (bytes_after : List Call → ℕ → List ℕ). record { u32_after = here.u32_after; u64_after = here.u64_after; bytes_after = bytes_after }) bytes_same

-- the word after so many words
word_after : (place : ℕ) (words : Words) → state_after (steps_u32 next_word) (replicate place u32_call) words 0 ≡ words place
word_after zero words = refl
word_after (suc place) words = word_after place (rest_after 1 words) ∙ ap words (add-one place)

-- words are what they answer
pub words_in-answers_of : (words : Words) → words_in (answers_of words) ≡ words
unfolding answers_of stream_of
words_in-answers_of words = fun_ext (λ place. word_after place words)

-- a draw from a generator is the draw from its words
pub draws_from : {A : Type 0} (draw : Stream → A × Stream) (generator left : Lcg) (value : A)
    → (value, stream_of (steps_u32 pcg32) left) ≡ draw (stream_of (steps_u32 pcg32) generator)
    → (value, words_of left) ≡ draw_from draw (words_of generator)
unfolding draw_from
draws_from {A} draw generator left value drawn =
    let read : Stream → Words = words_in in
    let ends : (value, stream_of (steps_u32 pcg32) left) ≡ draw (answers_of (words_of generator)) =
    drawn ∙ ap draw (sym (answers_of-words_of generator)) in
    let kept : words_of left ≡ words_in (stream_of (steps_u32 pcg32) left) =
    sym (words_in-answers_of (words_of left)) ∙ ap read (answers_of-words_of left) in
    ap (λ (words : Words). (value, words)) kept ∙ ap (λ (p : A × Stream). (p.0, words_in p.1)) ends

-- the width of a range from zero
width_from_zero : (bound : ℕ) → unsigned_abs (pos bound -ℤ pos 0) ≡ bound
width_from_zero bound = omega (arith, ints)

-- `rand`'s number from zero up to the bound
pub below_drawn : (standard : Stream → ℕ → Stream → Type 0) (bound value : ℕ) (generator left : Lcg)
    → bound < 2 ^ 32 → ¬ (bound ≡ 1)
    → DrawsBetween (λ n. pos n) (2 ^ 32) standard (canon (2 ^ 32) next_u32) (pos 0) (pos bound)
    (stream_of (steps_u32 pcg32) generator) value (stream_of (steps_u32 pcg32) left)
    → (value, words_of left) ≡ below_of (words_of generator) bound
unfolding below_of
below_drawn standard bound value generator left fits many drawn =
    let before = stream_of (steps_u32 pcg32) generator in
    let width = unsigned_abs (pos bound -ℤ pos 0) in
    let is_part : ¬ (width ≡ 2 ^ 32) = λ whole. absurd (omega (arith, width_from_zero bound)) in
    let is_value : value ≡ (canon (2 ^ 32) next_u32 width before).0 = omega (arith, ints, drawn.value is_part) in
    let is_drawn : (value, stream_of (steps_u32 pcg32) left) ≡ canon (2 ^ 32) next_u32 bound before =
    ap (λ (n : ℕ). (n, stream_of (steps_u32 pcg32) left)) is_value
    ∙ ap (λ (s : Stream). ((canon (2 ^ 32) next_u32 width before).0, s)) (drawn.rest is_part)
    ∙ ap (λ (n : ℕ). canon (2 ^ 32) next_u32 n before) (width_from_zero bound) in
    let test : (bound == 1) ≡ false = grind (arith, nat_tests) in
    rw test (draws_from (canon (2 ^ 32) next_u32 bound) generator left value is_drawn)

-- the number below one
pub below_one : (words : Words) → (0, words) ≡ below_of words 1
unfolding below_of
below_one words = refl

-- a loss that is drawn
pub lost_drawn : (words rest : Words) (value parts : ℕ) → 0 < parts → parts < 1000000
    → (value, rest) ≡ below_of words 1000000 → (nat_lt value parts, rest) ≡ lost_of words parts
unfolding lost_of
lost_drawn words rest value parts some short drawn =
    let known : (parts == 0) ≡ false = grind (arith, nat_tests) in
    let open_yet : nat_le 1000000 parts ≡ false = grind (arith, nat_tests) in
    rw (known, open_yet) (ap (λ (p : ℕ × Words). (nat_lt p.0 parts, p.1)) drawn)

-- what is never lost
pub lost_never : (words : Words) → (false, words) ≡ lost_of words 0
unfolding lost_of
lost_never words = refl

-- what is always lost
pub lost_always : (words : Words) (parts : ℕ) → 1000000 ≤ parts → (true, words) ≡ lost_of words parts
unfolding lost_of
lost_always words parts all =
    let some : (parts == 0) ≡ false = grind (arith, nat_tests) in
    let whole : nat_le 1000000 parts ≡ true = grind (arith, nat_tests) in
    rw (some, whole) refl

-- a shuffle of two or more
pub shuffle_drawn : (items reached : List ℕ) (generator left : Lcg) → 1 < length items
    → (reached, stream_of (steps_u32 pcg32) left) ≡ shuffled items 0 (stream_of (steps_u32 pcg32) generator)
    → (reached, words_of left) ≡ shuffle_of (words_of generator) items
unfolding shuffle_of
shuffle_drawn items reached generator left many drawn =
    let test : nat_lt 1 (length items) ≡ true = grind (arith, nat_tests) in
    rw test (draws_from (shuffled items 0) generator left reached drawn)

-- a shuffle of none or one
pub shuffle_short : (words : Words) (items : List ℕ) → length items ≤ 1 → (items, words) ≡ shuffle_of words items
unfolding shuffle_of
shuffle_short words items few =
    let test : nat_lt 1 (length items) ≡ false = grind (arith, nat_tests) in
    rw test refl
