-- What is made of each number below one, one number more.
use Rattle.std.proofs.Common.{◌≡◌, ℕ, ◌+◌, List, [], ◌∷◌, ◌++◌, zero-add, sym, ap, ◌∙◌}
use Rattle.std.specs.List.{range_with_len, flat_map}
use Rattle.std.proofs.lemmas.List.{map-id, flat_map_more}
use Rattle.std.proofs.lemmas.List.FromFn.{map-range_with_len_more}

pub range_more : (k : ℕ) → range_with_len 0 (k + 1) ≡ range_with_len 0 k ++ k ∷ []
range_more k =
    sym (map-id (range_with_len 0 (k + 1))) ∙ map-range_with_len_more (λ (x : ℕ). x) 0 k k (zero-add k) ∙ ap (λ xs. xs ++ k ∷ []) (map-id (range_with_len 0 k))

-- after what the first k numbers make comes what the next one makes
pub told_more : {A : Type 0} (tell : ℕ → List A) (old new later : List A) (k : ℕ) → new ≡ old ++ flat_map tell (range_with_len 0 k) → later ≡ new ++ tell k
    → later ≡ old ++ flat_map tell (range_with_len 0 (k + 1))
told_more tell old new later k so_far more =
    more ∙ ap (λ these. these ++ tell k) so_far ∙ flat_map_more tell old (range_with_len 0 k) k ∙ ap (λ ks. old ++ flat_map tell ks) (sym (range_more k))
