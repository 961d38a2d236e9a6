-- Texts that are put one after the other, one more at a time.
use Rattle.std.proofs.Common.{◌≡◌, ◌<◌, ◌+◌, ℕ, List, [], ◌∷◌, ◌++◌, length, get_or, take, sym, ap, ◌∙◌, append_assoc, append-nil}
use Rattle.std.specs.List.{flat_map}
use Rattle.std.proofs.lemmas.List.{take_more}
use Rattle.std.proofs.lemmas.List.Concat.{flat_map-append}

-- one text more after the others
pub laid_more : {X : Type 0} (f : X → List ℕ) (xs : List X) (i : ℕ) (d : X) (front new old : List ℕ) → i < length xs → new ≡ old ++ f (get_or xs i d)
    → old ≡ front ++ flat_map f (take i xs) → new ≡ front ++ flat_map f (take (i + 1) xs)
laid_more f xs i d front new old inside is so_far =
    is ∙ ap (λ l. l ++ f (get_or xs i d)) so_far ∙ append_assoc front (flat_map f (take i xs)) (f (get_or xs i d))
    ∙ ap (λ l. front ++ l) (ap (λ l. flat_map f (take i xs) ++ l) (sym (append-nil (f (get_or xs i d)))) ∙ sym (flat_map-append f (take i xs) (get_or xs i d ∷ [])))
    ∙ ap (λ l. front ++ flat_map f l) (sym (take_more xs i d inside))
