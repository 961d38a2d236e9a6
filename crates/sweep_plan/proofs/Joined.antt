-- Texts with a byte between them, one more at a time.
use Rattle.std.proofs.Common.{◌≡◌, ◌<◌, ◌+◌, ◌==◌, ℕ, zero, suc, List, [], ◌∷◌, ◌++◌, map, length, get_or, take, sym, ap, ◌∙◌, append_assoc, append-nil, arith, false, min}
use Rattle.std.specs.Prelude.{if◌then◌else◌}
use Rattle.std.specs.List.{join_with_byte}
use Rattle.std.proofs.lemmas.Bool.Decides.{nat_tests}
use Rattle.std.proofs.lemmas.List.{take_more, map-append, length-map, length-take}

pub join_with_byte-push : (c : ℕ) (xs : List (List ℕ)) (x : List ℕ) → 0 < length xs → join_with_byte c (xs ++ x ∷ []) ≡ (join_with_byte c xs ++ c ∷ []) ++ x
join_with_byte-push c [] x some = absurd (omega arith)
join_with_byte-push c (y ∷ []) x some = sym (append_assoc y (c ∷ []) x)
join_with_byte-push c (y ∷ z ∷ xs) x some =
    let rest = join_with_byte c (z ∷ xs) in
    ap (λ (more : List ℕ). y ++ c ∷ more) (join_with_byte-push c (z ∷ xs) x (omega arith))
    ∙ sym (ap (λ (front : List ℕ). front ++ x) (append_assoc y (c ∷ rest) (c ∷ [])) ∙ append_assoc y ((c ∷ rest) ++ c ∷ []) x)

pub texts_more : {X : Type 0} (f : X → List ℕ) (xs : List X) (i : ℕ) (d : X) → i < length xs → map f (take (i + 1) xs) ≡ map f (take i xs) ++ f (get_or xs i d) ∷ []
texts_more f xs i d inside = ap (map f) (take_more xs i d inside) ∙ map-append f (take i xs) (get_or xs i d ∷ [])

-- one text more behind what stands first, with the byte before it where it isn't the first
pub joined_behind : {X : Type 0} (c : ℕ) (f : X → List ℕ) (xs : List X) (i : ℕ) (d : X) (start new mid old : List ℕ) → i < length xs → new ≡ mid ++ f (get_or xs i d)
    → mid ≡ old ++ (if i == 0 then [] else c ∷ []) → old ≡ start ++ join_with_byte c (map f (take i xs)) → new ≡ start ++ join_with_byte c (map f (take (i + 1) xs))
joined_behind c f [] i d start new mid old inside is spaced so_far = absurd (omega arith)
joined_behind c f (x ∷ xs) zero d start new mid old inside is spaced so_far =
    is ∙ ap (λ l. l ++ f x) (spaced ∙ append-nil old ∙ so_far ∙ append-nil start) ∙ ap (λ l. start ++ join_with_byte c l) (sym (texts_more f (x ∷ xs) 0 d inside))
joined_behind c f (x ∷ xs) (suc i) d start new mid old inside is spaced so_far =
    let all = x ∷ xs in
    let text = f (get_or all (suc i) d) in
    let front = map f (take (suc i) all) in
    let later : (suc i == 0) ≡ false = grind (arith, nat_tests) in
    let apart : mid ≡ old ++ c ∷ [] = spaced ∙ ap (λ b. old ++ (if b then [] else c ∷ [])) later in
    let size : length front ≡ min (suc i) (length all) = length-map (take (suc i) all) f ∙ length-take (suc i) all in
    is ∙ ap (λ l. l ++ text) (apart ∙ ap (λ l. l ++ c ∷ []) so_far ∙ append_assoc start (join_with_byte c front) (c ∷ []))
    ∙ append_assoc start (join_with_byte c front ++ c ∷ []) text
    ∙ sym (ap (λ l. start ++ join_with_byte c l) (texts_more f all (suc i) d inside) ∙ ap (λ l. start ++ l) (join_with_byte-push c front text (omega (arith, size, inside))))

-- the same where nothing stands first
pub joined_more : {X : Type 0} (c : ℕ) (f : X → List ℕ) (xs : List X) (i : ℕ) (d : X) (new mid old : List ℕ) → i < length xs → new ≡ mid ++ f (get_or xs i d)
    → mid ≡ old ++ (if i == 0 then [] else c ∷ []) → old ≡ join_with_byte c (map f (take i xs)) → new ≡ join_with_byte c (map f (take (i + 1) xs))
joined_more c f xs i d new mid old inside is spaced so_far = joined_behind c f xs i d [] new mid old inside is spaced so_far
