-- When the 95 % interval of a share is narrow enough, by Wilson, where k of n runs have something. The width is wanted in hundredths.
use Rattle.std.specs.Prelude.{ℕ, ◌+◌, ◌-◌, ◌*◌, Bool, ◌&&◌, nat_le, nat_lt}

-- With z = 1.96 the ends of the interval lie 2 z √(k (n - k) / n + z²/4) / (n + z²) from each other. That is at most w where its square is at most w²:
-- 4 z² k (n - k) + z⁴ n ≤ w² n (n + z²)², both sides times n (n + z²)². Both sides are taken 10¹² times, and 38,416 is z² in ten thousandths.
abbrev pub spread : ℕ → ℕ → ℕ
spread k n = 400000000 * (38416 * (k * (n - k))) + 10000 * (38416 * 38416 * n)

abbrev pub room : ℕ → ℕ → ℕ
room width n = width * width * (n * ((10000 * n + 38416) * (10000 * n + 38416)))

-- the interval is at most so many hundredths wide; no runs show nothing
abbrev pub is_narrow : ℕ → ℕ → ℕ → Bool
is_narrow width k n = nat_lt 0 n && nat_le (spread k n) (room width n)
