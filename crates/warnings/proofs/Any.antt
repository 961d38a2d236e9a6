-- One of the first members passes a test, one member more.
use Rattle.std.proofs.Common.{◌≡◌, ℕ, ◌+◌, Bool, true, false, ◌||◌, [], ◌∷◌, refl, ap, ◌∙◌}
use Rattle.std.specs.List.{list_any, range_with_len}
use Rattle.std.proofs.lemmas.List.Folds.{list_any-append}
use Rattle.meaning.proofs.More.{range_more}

or_false : (b : Bool) → (b || false) ≡ b
or_false true = refl
or_false false = refl

pub any_more : (p : ℕ → Bool) (k : ℕ) → list_any p (range_with_len 0 (k + 1)) ≡ (list_any p (range_with_len 0 k) || p k)
any_more p k =
    ap (list_any p) (range_more k) ∙ list_any-append p (range_with_len 0 k) (k ∷ []) ∙ ap (λ b. list_any p (range_with_len 0 k) || b) (or_false (p k))
