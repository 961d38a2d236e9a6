-- Decimal logarithms in whole thousandths, by a number's decimal text.
use Rattle.std.specs.Prelude.{ℕ, zero, suc, ◌+◌, ◌-◌, ◌*◌, ◌/◌, ◌%◌, ◌^◌, Bool, nat_le, if◌then◌else◌, List, [], ◌∷◌, length, slice_index, decimal}

-- the decimal logarithms of 1 to 10, in thousandths, rounded to the nearest
abbrev pub thousandths_table : List ℕ
thousandths_table = 0 ∷ 301 ∷ 477 ∷ 602 ∷ 699 ∷ 778 ∷ 845 ∷ 903 ∷ 954 ∷ 1000 ∷ []

-- the entry of a number from 1 to 10
abbrev pub thousandths_of : ℕ → ℕ
thousandths_of d = slice_index thousandths_table (d - 1)

-- how many digits its decimal text has
abbrev pub digit_count : ℕ → ℕ
digit_count n = length (decimal n)

-- the first of them, as a number: the text has it as a byte, 48 for 0
abbrev pub leading_digit : ℕ → ℕ
leading_digit n = slice_index (decimal n) 0 - 48

-- about a thousand times the decimal logarithm: 1000 for each digit after the leading one, and that one's entry
abbrev pub log_of : ℕ → ℕ
log_of n = 1000 * (digit_count n - 1) + thousandths_of (leading_digit n)

-- ---- by the two leading digits

-- the greatest of the numbers from 1 to n that passes a test, 0 where none does
abbrev pub greatest : (ℕ → Bool) → ℕ → ℕ
greatest passes zero = zero
greatest passes (suc n) = if passes (suc n) then suc n else greatest passes n

-- whether k thousandths are no more than the decimal logarithm of d / 10, exactly: 10^(k/1000) <= d / 10
abbrev pub is_within_log : ℕ → ℕ → Bool
is_within_log d k = nat_le (10 ^ (1000 + k)) (d ^ 1000)

-- the decimal logarithm of a tenth of a number of two digits, in thousandths, rounded down
unfoldable pub tenth_log_of : ℕ → ℕ
tenth_log_of d = greatest (is_within_log d) 1000

-- its two leading digits, as a number: those of 7 are 70
abbrev pub leading_digits : ℕ → ℕ
leading_digits n = n * 10 / 10 ^ (digit_count n - 1)

-- a thousand times the decimal logarithm of the two leading digits and as many noughts as digits follow, rounded down
abbrev pub fine_log_of : ℕ → ℕ
fine_log_of n = 1000 * (digit_count n - 1) + tenth_log_of (leading_digits n)

-- ---- by the three leading digits

-- the three leading digits of a number: those of 7 are 700
abbrev pub three_leading_digits : ℕ → ℕ
three_leading_digits n = n * 100 / 10 ^ (digit_count n - 1)

-- the same logarithm at so many tenths of the way from the two leading digits to those that follow them
abbrev pub tenths_further : ℕ → ℕ → ℕ
tenths_further d tenths = tenth_log_of d + (tenth_log_of (d + 1) - tenth_log_of d) * tenths / 10

-- a thousand times the decimal logarithm: 1000 for each digit after the leading one; the two leading digits say the rest, and the third how far
-- it is on the way from them to the next two. Up to 99 the third digit is 0.
abbrev pub close_log_of : ℕ → ℕ
close_log_of n = 1000 * (digit_count n - 1) + tenths_further (three_leading_digits n / 10) (three_leading_digits n % 10)
