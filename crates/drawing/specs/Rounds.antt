-- Round steps of scales.
use Rattle.std.specs.Prelude.{ℕ, Bool, ◌+◌, ◌*◌, ◌/◌, ◌^◌, nat_le, if◌then◌else◌, List, [], ◌∷◌, ◌++◌, map}
use Rattle.std.specs.Option.{unwrap_or}
use Rattle.std.specs.List.{find, flat_map, range_with_len}

-- 1, 2 and 5 with so many zeros
abbrev pub with_digits : ℕ → List ℕ
with_digits power = power ∷ 2 * power ∷ 5 * power ∷ []

-- the round numbers: 1, 2, 5, 10, 20, 50 and so on, to 5 and 18 zeros
abbrev pub round_numbers : List ℕ
round_numbers = flat_map (λ zeros. with_digits (10 ^ zeros)) (range_with_len 0 19)

-- a step of which at most so many reach up to `most`
abbrev pub is_long_enough : ℕ → ℕ → ℕ → Bool
is_long_enough most ticks step = nat_le (most / step) ticks

-- the least round step that is long enough; past them all, one that reaches beyond `most`
unfoldable pub round_step : ℕ → ℕ → ℕ
round_step most ticks = unwrap_or (find (is_long_enough most ticks) round_numbers) (most + 1)

-- The round steps of time in microseconds, from a second to half a day: 1, 2, 5, 10, 15 and 30 seconds or minutes, and 1, 2, 3, 6 and 12 hours.
abbrev pub sixtieths : List ℕ
sixtieths = 1 ∷ 2 ∷ 5 ∷ 10 ∷ 15 ∷ 30 ∷ []

abbrev pub long_steps : List ℕ
long_steps =
    map (λ n. n * 1000000) sixtieths ++ map (λ n. n * 60000000) sixtieths ++ map (λ n. n * 3600000000) (1 ∷ 2 ∷ 3 ∷ 6 ∷ 12 ∷ [])

-- Half a second, the longest of the round numbers of microseconds that is a step of time; and a day.
abbrev pub half_second : ℕ
half_second = 500000

abbrev pub whole_day : ℕ
whole_day = 86400000000

-- The least round step of time that is long enough: a round number of microseconds up to half a second, one of the steps up to half a day, or a
-- round number of days.
unfoldable pub time_step : ℕ → ℕ → ℕ
time_step length ticks =
    if nat_le (length / half_second) ticks then round_step length ticks
    else unwrap_or (find (is_long_enough length ticks) long_steps) (whole_day * round_step (length / whole_day) ticks)
