-- Roots of whole numbers.
use Rattle.std.specs.Prelude.{ℕ, ◌+◌, ◌*◌, ◌==◌, nat_le, count_by, if◌then◌else◌}
use Rattle.std.specs.List.{range_with_len}

-- the greatest number whose square is no greater: the numbers from 1 on whose squares are none are that many
unfoldable pub root : ℕ → ℕ
root n = count_by (λ r. nat_le (r * r) n) (range_with_len 1 n)

-- the least number whose square is no less
abbrev pub root_up : ℕ → ℕ
root_up n = if root n * root n == n then root n else root n + 1

-- 9,800 times a day in microseconds, so many times a number, and another one
abbrev pub scaled : ℕ → ℕ → ℕ
scaled y f = 846720000000000 * y + f

-- the square of so many times the root of `y * y + e`
abbrev pub scaled_square : ℕ → ℕ → ℕ
scaled_square y e = 846720000000000 * 846720000000000 * (y * y + e)
