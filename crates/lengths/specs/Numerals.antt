-- Numbers as a text writes them in lengths and shares: digits, and maybe a point and digits behind it.
use Rattle.std.specs.Prelude.{◌≡◌, ℕ, ◌+◌, ◌-◌, ◌*◌, ◌^◌, ◌<◌, ◌≤◌, ◌==◌, ◌||◌, Bool, true, List, [], ◌∷◌, ◌++◌, length}
use Rattle.std.specs.Char.{is_ascii_digit}
use Rattle.std.specs.Str.{all_ascii_digits}
use Rattle.std.specs.Str.Parse.{digits_value}

-- a byte that a number may have: a digit or the point
abbrev pub is_number_byte : ℕ → Bool
is_number_byte byte = is_ascii_digit byte || (byte == 46)

-- what a number has behind its whole part: nothing, or a point and its digits
abbrev pub pointed : List ℕ → List ℕ
pointed [] = []
pointed (digit ∷ digits) = 46 ∷ digit ∷ digits

-- The word is a number of at most so many digits, and maybe a point and at most so many places behind it. Its
-- value counts in units of the last of these places: 1.5 is 1500 at three places.
pub record IsNumeral (most places : ℕ) (word : List ℕ) (value : ℕ) : Type 0 where
  pub whole : List ℕ
  pub fraction : List ℕ
  pub written : whole ++ pointed fraction ≡ word
  pub digits : all_ascii_digits whole ≡ true
  pub some : 0 < length whole
  pub few : length whole ≤ most
  pub behind : all_ascii_digits fraction ≡ true
  pub fine : length fraction ≤ places
  pub counts : value ≡ digits_value 10 whole * 10 ^ places + digits_value 10 fraction * 10 ^ (places - length fraction)
