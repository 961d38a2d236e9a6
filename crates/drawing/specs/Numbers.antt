-- Numbers as a page shows them.
use Rattle.std.specs.Prelude.{ℕ, zero, suc, ◌*◌, ◌/◌, ◌%◌, nat_le, if◌then◌else◌, List, [], ◌++◌, codes, decimal}

-- a number below a thousand by three digits
abbrev pub three_digits : ℕ → List ℕ
three_digits n = decimal (n / 100) ++ decimal (n / 10 % 10) ++ decimal (n % 10)

-- a number whose digits stand in groups of three, with a comma before each of the last so many groups
abbrev pub grouped_within : ℕ → ℕ → List ℕ
grouped_within zero n = decimal n
grouped_within (suc commas) n = if nat_le 1000 n then grouped_within commas (n / 1000) ++ (codes "," ++ three_digits (n % 1000)) else decimal n

-- the digits of a number in groups of three: of 64 bits it has seven groups at most
unfoldable pub grouped : ℕ → List ℕ
grouped n = grouped_within 6 n

-- a group of a number's digits, by what its last digit counts, where others stand before it or none
abbrev pub group_digits : ℕ → List ℕ
group_digits n = if nat_le 1000 n then codes "," ++ three_digits (n % 1000) else decimal (n % 1000)

-- the same; nothing where the number doesn't reach so far
abbrev pub digit_group : ℕ → ℕ → List ℕ
digit_group n count = if nat_le count n then group_digits (n / count) else []

-- where a value stands on a scale up to `most`, in hundredths of a percent and rounded down; what is more stands at its end
unfoldable pub hundredths : ℕ → ℕ → ℕ
hundredths value most = if nat_le most value then 10000 else value * 10000 / most

-- a number of hundredths as CSS has it in percent
abbrev pub percent : ℕ → List ℕ
percent n = decimal (n / 100) ++ codes "." ++ decimal (n / 10 % 10) ++ decimal (n % 10) ++ codes "%"

-- where a value stands on a scale up to `most`
unfoldable pub place : ℕ → ℕ → List ℕ
place value most = percent (hundredths value most)
