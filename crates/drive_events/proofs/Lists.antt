-- Lists of members that grow by one.
use Rattle.std.proofs.Common.{◌≡◌, ℕ, ◌+◌, Bool, true, false, cond, List, [], ◌∷◌, ◌++◌, All, ap, ◌∙◌, sym, subst, zero-add, append-nil, map-id}
use Rattle.std.specs.List.{filter, range_with_len}
use Rattle.std.proofs.lemmas.List.Elements.{All-push, filter-append}
use Rattle.std.proofs.lemmas.List.FromFn.{map-range_with_len_more}

-- the numbers below one more
pub numbers_more : (n : ℕ) → range_with_len 0 (n + 1) ≡ range_with_len 0 n ++ n ∷ []
numbers_more n =
    sym (map-id (range_with_len 0 (n + 1))) ∙ map-range_with_len_more (λ x. x) 0 n n (zero-add n) ∙ ap (λ xs. xs ++ n ∷ []) (map-id (range_with_len 0 n))

pub all_more : (P : ℕ → Type 0) (xs ys : List ℕ) (x : ℕ) → ys ≡ xs ++ x ∷ [] → All P xs → P x → All P ys
all_more P xs ys x pushed before here = subst (All P) (sym pushed) (All-push P xs x before here)

pub kept_more : (p : ℕ → Bool) (n : ℕ) → p n ≡ true → filter p (range_with_len 0 n) ++ n ∷ [] ≡ filter p (range_with_len 0 (n + 1))
kept_more p n is =
    ap (λ b. filter p (range_with_len 0 n) ++ cond b (n ∷ []) []) (sym is) ∙ sym (filter-append p (range_with_len 0 n) (n ∷ [])) ∙ ap (filter p) (sym (numbers_more n))

pub skipped_more : (p : ℕ → Bool) (n : ℕ) → p n ≡ false → filter p (range_with_len 0 n) ≡ filter p (range_with_len 0 (n + 1))
skipped_more p n isnt =
    sym (append-nil (filter p (range_with_len 0 n))) ∙ ap (λ b. filter p (range_with_len 0 n) ++ cond b (n ∷ []) []) (sym isnt)
    ∙ sym (filter-append p (range_with_len 0 n) (n ∷ [])) ∙ ap (filter p) (sym (numbers_more n))
