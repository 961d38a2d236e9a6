-- Members in turn: the part at each place, and one member more.
use Rattle.std.proofs.Common.{◌≡◌, ◌↔◌, ◌%◌, ◌+◌, ◌<◌, ℕ, List, [], ◌∷◌, ◌++◌, map, take, slice_get, unwrap_or, Some, IsTrue, false, ap, ◌∙◌, sym, arith}
use Rattle.std.specs.List.{range_with_len}
use Rattle.std.proofs.lemmas.Bool.{false≢true}
use Rattle.std.proofs.lemmas.List.{take_more}
use Rattle.std.proofs.lemmas.List.FromFn.{length-map-range_with_len, get_or-map-range_with_len, map-range_with_len_more}
use Rattle.std.proofs.lemmas.Option.{get_or_from_slice_get, slice_get_read, slice_get_within}
use Rattle.scenario.specs.Division.{Deal, in_turn}

-- the parts of so many members in turn
abbrev pub turns : ℕ → ℕ → List ℕ
turns limit count = map (λ n. n % limit) (range_with_len 0 count)

-- one member more that is in its turn
pub one_more : (limit m part : ℕ) (xs : List ℕ) → slice_get xs m ≡ Some part → part ≡ m % limit → take m xs ≡ turns limit m → take (m + 1) xs ≡ turns limit (m + 1)
one_more limit m part xs here is so_far =
    take_more xs m part (slice_get_within xs m part here)
    ∙ ap (λ p. take m xs ++ p ∷ []) (get_or_from_slice_get xs m part part here ∙ is)
    ∙ ap (λ front. front ++ (m % limit) ∷ []) so_far
    ∙ sym (map-range_with_len_more (λ n. n % limit) 0 m m (omega arith))

at_turn : (limit count m : ℕ) → m < count → slice_get (turns limit count) m ≡ Some (m % limit)
at_turn limit count m low =
    slice_get_read (turns limit count) count m (m % limit) (sym (length-map-range_with_len (λ n. n % limit) 0 count)) low
    (sym (get_or-map-range_with_len (λ n. n % limit) 0 count m m (m % limit) low (omega arith)))

-- where a member has another part, they are not in turn
pub one_other : (limit count m part : ℕ) (deal : Deal) → m < count → slice_get deal.part_of m ≡ Some part → ¬ (part ≡ m % limit) → ¬ (deal ≡ in_turn count limit)
one_other limit count m part deal low here other is =
    other (ap (λ found. unwrap_or found 0) (sym here ∙ ap (λ (d : Deal). slice_get d.part_of m) is ∙ at_turn limit count m low))

-- where it does not hold, the answer is no
pub if_not : (P : Type 0) → ¬ P → IsTrue false ↔ P
if_not P none = (λ is. absurd (false≢true is), λ p. absurd (none p))
