-- A draw moves the place on: the rest of the words is the words from some later place on.
use Rattle.std.proofs.Common.{◌≡◌, ℕ, zero, suc, ◌+◌, ◌-◌, ◌*◌, ◌%◌, ◌^◌, ◌==◌, Bool, true, false, nat_lt, nat_le, if◌then◌else◌, List, length, ap, ◌∙◌, arith}
use Rattle.std.proofs.Math.Path.{fun_ext}
use Rattle.rand_core.specs.Stream.{Stream, next_u32, next_u64}
use Rattle.rand_core.specs.Steps.{steps_u32}
use Rattle.rand_core.proofs.StepsLemmas.{next_u32-stream_of, next_u64-stream_of}
use Rattle.rand.specs.Uniform.{canon, usize_single}
use Rattle.rand.specs.Shuffle.{Chooser, chunk_of, chooser_at, chooser_refill, chooser_next, narrow_swaps, wide_swaps, shuffled}
use Rattle.streams.specs.Draw.{Words, rest_after, IsRestOf, next_word, answers_of, words_in, draw_from, below_of, lost_of, shuffle_of}
use Rattle.streams.proofs.DrawLemmas.{words_in-answers_of}

-- the stream answers from some place of these words on
abbrev pub Reached : Words → Stream → Type 0
Reached words stream = (n : ℕ) × (stream ≡ answers_of (rest_after n words))

-- a call that answers from a later place
abbrev pub MovesOn : (Stream → ℕ × Stream) → Type 0
MovesOn next = (words : Words) (stream : Stream) → Reached words stream → Reached words (next stream).1

-- the rest of a rest
pub rest-rest : (m n : ℕ) (words : Words) → rest_after m (rest_after n words) ≡ rest_after (n + m) words
rest-rest m n words = fun_ext (λ place. ap words (omega arith))

-- no word is taken
pub rest_after-zero : (words : Words) → words ≡ rest_after 0 words
rest_after-zero words = fun_ext (λ place. ap words (omega arith))

-- one word
pub next_u32-answers_of : (words : Words) → next_u32 (answers_of words) ≡ (words 0, answers_of (rest_after 1 words))
unfolding answers_of
next_u32-answers_of words = next_u32-stream_of (steps_u32 next_word) words

-- two words
next_u64-answers_of : (words : Words) → (next_u64 (answers_of words)).1 ≡ answers_of (rest_after 1 (rest_after 1 words))
unfolding answers_of
next_u64-answers_of words = ap (λ (p : ℕ × Stream). p.1) (next_u64-stream_of (steps_u32 next_word) words)

-- a call for one word
pub u32_moves : MovesOn next_u32
u32_moves words stream (n, here) = (
  n + 1,
  ap (λ (s : Stream). (next_u32 s).1) here
      ∙ ap (λ (p : ℕ × Stream). p.1) (next_u32-answers_of (rest_after n words))
      ∙ ap answers_of (rest-rest 1 n words),
)

-- a call for two words
u64_moves : MovesOn next_u64
u64_moves words stream (n, here) = (
  n + 1 + 1,
  ap (λ (s : Stream). (next_u64 s).1) here
      ∙ next_u64-answers_of (rest_after n words)
      ∙ ap (λ (w : Words). answers_of (rest_after 1 w)) (rest-rest 1 n words)
      ∙ ap answers_of (rest-rest 1 (n + 1) words),
)

-- what holds of both values holds of a choice
pub either_holds : {A : Type 0} (P : A → Type 0) (c : Bool) (x y : A) → P x → P y → P (if c then x else y)
either_holds P true x y p q = p
either_holds P false x y p q = q

-- one word or two of Canon's method
pub canon_moves : (m range : ℕ) (next : Stream → ℕ × Stream) → MovesOn next → MovesOn (canon m next range)
unfolding canon
canon_moves m range next moves words stream here =
    let one = moves words stream here in
    either_holds (λ (p : ℕ × Stream). Reached words p.1) (nat_lt (m - range) ((next stream).0 * range % m)) _ _
    (moves words (next stream).1 one) one

-- a number up to an end, by one call's words or the other's
usize_moves : (low high : ℕ) → MovesOn (usize_single low high)
usize_moves low high words stream here =
    either_holds (λ (p : ℕ × Stream). Reached words p.1) (nat_lt high (2 ^ 32)) _ _
    (canon_moves (2 ^ 32) (high - low) next_u32 u32_moves words stream here)
    (canon_moves (2 ^ 64) (high - low) next_u64 u64_moves words stream here)

-- a draw for some indices, or none
pub refill_moves : (c : Chooser) (words : Words) (stream : Stream) → Reached words stream → Reached words (chooser_refill c stream).2
refill_moves c words stream here =
    either_holds (λ (p : ℕ × ℕ × Stream). Reached words p.2) (c.left == 0) _ _
    (canon_moves (2 ^ 32) (chunk_of (c.n + 1)).0 next_u32 u32_moves words stream here)
    here

-- the next index
pub chooser_moves : (c : Chooser) (words : Words) (stream : Stream) → Reached words stream → Reached words (chooser_next c stream).2
chooser_moves c words stream here =
    let refilled = refill_moves c words stream here in
    either_holds (λ (p : ℕ × Chooser × Stream). Reached words p.2) ((chooser_refill c stream).1 == 1) _ _ refilled refilled

-- so many swaps, some to a draw
pub narrow_moves : (items : List ℕ) (c : Chooser) (k : ℕ) (words : Words) (stream : Stream) → Reached words stream
    → Reached words (narrow_swaps items c stream k).2
unfolding narrow_swaps
narrow_moves items c zero words stream here = here
narrow_moves items c (suc k) words stream here =
    let before = narrow_swaps items c stream k in
    chooser_moves before.1 words before.2 (narrow_moves items c k words stream here)

-- so many swaps, each with a draw
wide_moves : (items : List ℕ) (start k : ℕ) (words : Words) (stream : Stream) → Reached words stream
    → Reached words (wide_swaps items start stream k).1
unfolding wide_swaps
wide_moves items start zero words stream here = here
wide_moves items start (suc k) words stream here =
    usize_moves 0 (start + k + 1) words (wide_swaps items start stream k).1 (wide_moves items start k words stream here)

-- a shuffle
shuffled_moves : (items : List ℕ) (words : Words) (stream : Stream) → Reached words stream → Reached words (shuffled items 0 stream).1
shuffled_moves items words stream here =
    either_holds (λ (p : List ℕ × Stream). Reached words p.1) (nat_lt (length items) (2 ^ 32 - 1)) _ _
    (narrow_moves items (chooser_at 0) (length items - 0) words stream here)
    (wide_moves items 0 (length items - 0) words stream here)

-- before a draw
pub start : (words : Words) → Reached words (answers_of words)
start words = (0, ap answers_of (rest_after-zero words))

-- no draw
stays : (words : Words) → IsRestOf words words
stays words = (0, rest_after-zero words)

-- a draw that moves on leaves a rest of the words
drawn_rest : {A : Type 0} (draw : Stream → A × Stream) (words : Words) → Reached words (draw (answers_of words)).1
    → IsRestOf words (draw_from draw words).1
unfolding draw_from
drawn_rest draw words (n, here) = (n, ap words_in here ∙ words_in-answers_of (rest_after n words))

-- a number below a bound
pub below_rest : (words : Words) (bound : ℕ) → IsRestOf words (below_of words bound).1
unfolding below_of
below_rest words bound =
    either_holds (λ (p : ℕ × Words). IsRestOf words p.1) (bound == 1) _ _ (stays words)
    (drawn_rest (canon (2 ^ 32) next_u32 bound) words
    (canon_moves (2 ^ 32) bound next_u32 u32_moves words (answers_of words) (start words)))

-- a loss
pub lost_rest : (words : Words) (parts : ℕ) → IsRestOf words (lost_of words parts).1
unfolding lost_of
lost_rest words parts =
    let left : Bool × Words → Type 0 = λ p. IsRestOf words p.1 in
    either_holds left (parts == 0) _ _ (stays words)
    (either_holds left (nat_le 1000000 parts) _ _ (stays words) (below_rest words 1000000))

-- a new order
pub shuffle_rest : (words : Words) (items : List ℕ) → IsRestOf words (shuffle_of words items).1
unfolding shuffle_of
shuffle_rest words items =
    either_holds (λ (p : List ℕ × Words). IsRestOf words p.1) (nat_lt 1 (length items)) _ _
    (drawn_rest (shuffled items 0) words (shuffled_moves items words (answers_of words) (start words)))
    (stays words)
