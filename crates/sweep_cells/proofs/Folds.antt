-- The greatest of what stands at each place, one after the other.
use Rattle.std.proofs.Common.{◌≡◌, ℕ, ◌+◌, max, fold, ap, sym, ◌∙◌, arith}
use Rattle.std.specs.List.{range_with_len}
use Rattle.std.specs.Ordering.{nat_cmp, ord_max}
use Rattle.std.proofs.lemmas.Bool.Decides.{nat_tests}
use Rattle.std.proofs.lemmas.List.Sums.{fold_push}
use Rattle.drawing.proofs.Ranges.{range_more}

larger : (a b : ℕ) → ord_max nat_cmp a b ≡ max a b
larger a b = grind (arith, nat_tests)

-- the greatest so far, and what stands at the next place
pub greatest_more : (f : ℕ → ℕ) (least n most next : ℕ) → most ≡ fold (λ (m : ℕ) (k : ℕ). max m (f k)) least (range_with_len 0 n) → next ≡ f n
    → ord_max nat_cmp most next ≡ fold (λ (m : ℕ) (k : ℕ). max m (f k)) least (range_with_len 0 (n + 1))
greatest_more f least n most next held is =
    larger most next ∙ ap (λ m. max m next) held ∙ ap (λ k. max (fold (λ (m : ℕ) (k : ℕ). max m (f k)) least (range_with_len 0 n)) k) is
    ∙ sym (ap (fold (λ (m : ℕ) (k : ℕ). max m (f k)) least) (range_more n) ∙ fold_push (λ (m : ℕ) (k : ℕ). max m (f k)) least (range_with_len 0 n) n)
