-- Bins of times: how many crashes were first confirmed in each of equal spans of ticks.
use Rattle.std.specs.Prelude.{ℕ, ◌+◌, ◌-◌, ◌*◌, ◌^◌, ◌==◌, if◌then◌else◌, min, max, List, fold, slice_get, sum_by}
use Rattle.std.specs.List.{range_with_len}
use Rattle.std.specs.Option.{option_map_or}
use Rattle.figures.specs.declared.histogram.Histogram.{Histogram}
use Rattle.figures.specs.declared.summary.SettingSummary.{SettingSummary}

-- as far as 64 bits hold it
abbrev pub held : ℕ → ℕ
held n = min n (2 ^ 64 - 1)

-- where the bin at a place begins, in ticks
unfoldable pub bin_start : Histogram → ℕ → ℕ
bin_start times bin = held (bin * times.width)

-- where it ends, and the next one begins
unfoldable pub bin_end : Histogram → ℕ → ℕ
bin_end times bin = held (bin * times.width + times.width)

-- where a bin ends in which so many times are; 0 where there is none
unfoldable pub filled_end : Histogram → ℕ → ℕ → ℕ
filled_end times bin count = if count == 0 then 0 else bin_end times bin

-- that of the bin at a place
unfoldable pub end_at : Histogram → ℕ → ℕ
end_at times bin = option_map_or (filled_end times bin) (slice_get times.bins bin) 0

-- how far the twenty bins reach in which times are
unfoldable pub reach_of : Histogram → ℕ
reach_of times = fold (λ most bin. max most (end_at times bin)) 0 (range_with_len 0 20)

-- how far those of the setting at a place reach
unfoldable pub reach_at : List SettingSummary → ℕ → ℕ
reach_at settings place = option_map_or (λ setting. reach_of setting.confirm_times) (slice_get settings place) 0

-- how far those of the settings at these places reach; 1 at least
unfoldable pub greatest_reach : List SettingSummary → List ℕ → ℕ
greatest_reach settings places = fold (λ (most : ℕ) (place : ℕ). max most (reach_at settings place)) 1 places

-- how far the axis of all these reaches: a billion billions at most
unfoldable pub axis_reach : List SettingSummary → List ℕ → ℕ
axis_reach settings places = min (greatest_reach settings places) (10 ^ 18)

-- how many times the fullest bin has; 1 at least
unfoldable pub fullest : Histogram → ℕ
fullest times = fold (λ (most : ℕ) (count : ℕ). max most count) 1 times.bins

-- how high a chart is: a billion billions at most
unfoldable pub height_of : Histogram → ℕ
height_of times = min (fullest times) (10 ^ 18)

-- how many of so many crashes are in no bin
unfoldable pub in_no_bin : ℕ → Histogram → ℕ
in_no_bin crashes times = crashes - sum_by (λ count. count) times.bins

-- how many crashes of a setting were never confirmed: the bins have all those that were
unfoldable pub never_confirmed : SettingSummary → ℕ
never_confirmed setting = held (in_no_bin setting.crashes setting.confirm_times)
