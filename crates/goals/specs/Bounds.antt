-- On which side of a bound the 95 % interval of a share lies, by Wilson, where k of n runs have something. The bound is a share p in millionths.
use Rattle.std.specs.Prelude.{ℕ, ◌+◌, ◌-◌, ◌*◌, ◌/◌, ◌==◌, Bool, ◌&&◌, ◌||◌, nat_le, nat_lt, Option, Some, None, if◌then◌else◌}

-- A share p is in the interval where n (k/n - p)² ≤ z² p (1 - p), with z = 1.96. In whole numbers, n times the distance of p from k/n:
abbrev pub distance : ℕ → ℕ → ℕ → ℕ
distance p k n = (p * n - 1000000 * k) + (1000000 * k - p * n)

-- and its square in ten thousandths, beside n times z² p (1 - p), where 38,416 is z² in ten thousandths:
abbrev pub apart : ℕ → ℕ → ℕ → ℕ
apart p k n = 10000 * (distance p k n * distance p k n)

abbrev pub squared_reach : ℕ → ℕ → ℕ
squared_reach p n = 38416 * (p * (1000000 - p)) * n

-- the whole interval is up to p
abbrev pub is_up_to : ℕ → ℕ → ℕ → Bool
is_up_to p k n = nat_le 1000000 p || (nat_lt (1000000 * k) (p * n) && nat_le (squared_reach p n) (apart p k n))

-- the whole interval is past p
abbrev pub is_past : ℕ → ℕ → ℕ → Bool
is_past p k n = nat_lt (p * n) (1000000 * k) && nat_lt (squared_reach p n) (apart p k n)

-- How many runs put p beyond the interval, if the share stays: what is apart grows with their square and the squared_reach with their number, so it is
-- the least number of runs that is more than n times the squared_reach by what is apart. There are none where the share is p itself, or p is one.
abbrev pub runs_that_tell : ℕ → ℕ → ℕ → Option ℕ
runs_that_tell p k n = if nat_le 1000000 p || distance p k n == 0 then None else Some (squared_reach p n * n / apart p k n + 1)
