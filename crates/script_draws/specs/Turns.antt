-- The draws of a text: one stream of words, from which one item after the other draws.
use Rattle.std.specs.Prelude.{ℕ, suc, List, [], ◌∷◌, ◌++◌}
use Rattle.streams.specs.Draw.{Words, member_words}

-- the words of a text: PCG32 from the scenario's seed, on stream 65,536, which is no member's
abbrev pub text_words : ℕ → Words
text_words seed = member_words seed 65536

-- what the items make, one after the other, and the words that are left; each knows its place, from k on
abbrev pub in_turn : {A B : Type 0} → (ℕ → A → Words → List B × Words) → ℕ → List A → Words → List B × Words
in_turn make k [] words = ([], words)
in_turn make k (item ∷ items) words =
    let first = make k item words in
    let others = in_turn make (suc k) items first.1 in
    (first.0 ++ others.0, others.1)

-- what was made before, and what is made then
abbrev pub behind : {B : Type 0} → List B → List B × Words → List B × Words
behind before made = (before ++ made.0, made.1)
