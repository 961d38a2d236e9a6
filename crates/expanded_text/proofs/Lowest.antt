-- The lowest of rules, each at most 255.
use Rattle.std.proofs.Common.{◌≡◌, ◌<◌, ℕ, min, ap, sym, ◌∙◌, arith}
use Rattle.std.proofs.lemmas.Bool.Decides.{nat_tests}

pub low_within : (n : ℕ) → n < 256 → n ≡ min n 255
low_within n low = grind (arith, nat_tests)

pub least_within : (a b n : ℕ) → n ≡ min a b → a < 256 → n ≡ min (min a b) 255
least_within a b n is low = grind (arith, nat_tests)

pub none_within : (a b n : ℕ) → n ≡ min a b → n ≡ 255 → 255 ≡ min (min a b) 255
none_within a b n is none = ap (λ (m : ℕ). min m 255) (sym (sym is ∙ none))
