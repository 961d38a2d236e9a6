-- A member's stream is its words, by place, and the place reached. A draw gives a value and the
-- rest of the words.
use Rattle.std.specs.Prelude.{◌≡◌, ◌<◌, ℕ, ◌+◌, ◌^◌, ◌==◌, Bool, true, false, List, length, nat_lt, nat_le, if◌then◌else◌, replicate}
use Rattle.rand_core.specs.Stream.{Stream, u32_call, next_u32}
use Rattle.rand_core.specs.Steps.{stream_of, steps_u32}
use Rattle.rand_pcg.specs.Lcg.{Lcg, advance, started, increment_of}
use Rattle.rand_pcg.specs.Pcg.{multiplier_64, pcg32}
use Rattle.rand.specs.Uniform.{canon}
use Rattle.rand.specs.Shuffle.{shuffled}

-- the words that are left of a stream, each by its place from the place reached on
abbrev pub Words : Type 0
Words = ℕ → ℕ

-- the rest of the words after the first n
abbrev pub rest_after : ℕ → Words → Words
rest_after n words = λ place. words (place + n)

-- words of 32 bits
abbrev pub AreWords : Words → Type 0
AreWords words = (place : ℕ) → words place < 2 ^ 32

-- the words from the same place on, or from a later one
abbrev pub IsRestOf : Words → Words → Type 0
IsRestOf words rest = (n : ℕ) × (rest ≡ rest_after n words)

-- the words of a generator: at each place the word that PCG32 gives after so many steps
unfoldable pub words_of : Lcg → Words
words_of generator = λ place. (pcg32 (advance 64 multiplier_64 place generator)).0

-- the words of a member: PCG32 from the scenario's seed, on the stream of the member's number
abbrev pub member_words : ℕ → ℕ → Words
member_words seed member = words_of (started 64 multiplier_64 seed (increment_of 64 member))

-- the next word, and the rest
abbrev pub next_word : Words → ℕ × Words
next_word words = (words 0, rest_after 1 words)

-- what a generator of these words answers to its callers
unfoldable pub answers_of : Words → Stream
answers_of words = stream_of (steps_u32 next_word) words

-- the words of such answers: at each place the word that comes after so many words
abbrev pub words_in : Stream → Words
words_in stream = λ place. stream.u32_after (replicate place u32_call)

-- a draw from these words: its value, and the rest of the words
unfoldable pub draw_from : {A : Type 0} → (Stream → A × Stream) → Words → A × Words
draw_from draw words = ((draw (answers_of words)).0, words_in (draw (answers_of words)).1)

-- A number below the bound: `random_range(0..bound)` over 32-bit words. The number below one is
-- zero, and takes no word.
unfoldable pub below_of : Words → ℕ → ℕ × Words
below_of words bound =
    if bound == 1 then (0, words) else draw_from (canon (2 ^ 32) next_u32 bound) words

-- the parts of a certain loss
abbrev pub million : ℕ
million = 1000000

-- Whether a message is lost, at so many parts in a million: a number below a million is below that.
-- What is never or always lost takes no word.
unfoldable pub lost_of : Words → ℕ → Bool × Words
lost_of words parts =
    if parts == 0 then (false, words)
    else if nat_le million parts then (true, words)
    else (nat_lt (below_of words million).0 parts, (below_of words million).1)

-- A list in a new order: `rand`'s shuffle. A list of no item or one stays, and takes no word.
unfoldable pub shuffle_of : Words → List ℕ → List ℕ × Words
shuffle_of words items =
    if nat_lt 1 (length items) then draw_from (shuffled items 0) words else (items, words)
