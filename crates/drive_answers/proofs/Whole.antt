-- A number that is read is the one that is written.
use Rattle.std.proofs.Common.{◌≡◌, ℕ, true, nat_eq, ◌<◌, ◌≤◌, ◌^◌, List, Option, Some, None, ap, ◌∙◌, sym, refl, arith, unwrap_or}
use Rattle.std.specs.Prelude.{IfSome, IsNone, decimal}
use Rattle.std.proofs.lemmas.Fmt.{decimal_injective}

-- what is read is the number, so none that is in the range was written if what was read isn't in it
pub none_in_range : (o : Option ℕ) (t : Option (List ℕ)) (least most : ℕ) → most < 2 ^ 63 → IfSome o (λ m. (t ≡ Some (decimal m)) × (m < 2 ^ 63))
    → (IsNone o → (n : ℕ) → n < 2 ^ 63 → ¬ (t ≡ Some (decimal n))) → ((n : ℕ) → o ≡ Some n → ¬ ((least ≤ n) × (n ≤ most)))
    → (n : ℕ) → t ≡ Some (decimal n) → least ≤ n → n ≤ most → ⊥
none_in_range None t least most small some none out n written low high = none refl n (omega arith) written
none_in_range (Some m) t least most small some none out n written low high =
    let texts : decimal m ≡ decimal n = ap (λ o. unwrap_or o (decimal m)) (sym some.0 ∙ written) in
    let same : m ≡ n = decimal_injective m n (omega (arith, some.1)) (omega arith) texts in
    out n (ap Some same) (low, high)

pub is_same : (a b : ℕ) → nat_eq a b ≡ true → a ≡ b
is_same a b h = grind (arith, h)
