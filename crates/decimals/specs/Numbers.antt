-- The numbers that words are.
use Rattle.std.specs.Prelude.{◌≡◌, ℕ, ◌<◌, ◌^◌, ◌==◌, ◌||◌, ◌&&◌, not, List, [], ◌∷◌, Bool, false, length}
use Rattle.std.specs.Fmt.{decimal}

-- the word is the number in decimal, which has no sign and no leading zero; the number is at most 2^63 - 1
pub record IsDecimal (word : List ℕ) (n : ℕ) : Type 0 where
  pub written : decimal n ≡ word
  pub low : n < 2 ^ 63

-- a sign, or a zero before other bytes, comes first
abbrev pub has_sign_or_zero : List ℕ → Bool
has_sign_or_zero [] = false
has_sign_or_zero (first ∷ rest) = (first == 43) || ((first == 48) && not (length rest == 0))
