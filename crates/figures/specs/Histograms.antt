-- How times spread: how many of them fall into each of 20 bins of one width, which begin at 0 and follow one another.
use Rattle.std.specs.Prelude.{◌≡◌, ℕ, ◌+◌, ◌/◌, ◌==◌, List, map, max, count_by}
use Rattle.std.specs.List.{range_with_len, reduce}
use Rattle.std.specs.Option.{unwrap_or}
use Rattle.figures.specs.declared.histogram.Histogram.{Histogram}

-- the least width by which the greatest time falls into the last bin at most; of no times, the greatest is as good as 0
abbrev pub bin_width : List ℕ → ℕ
bin_width times = unwrap_or (reduce max times) 0 / 20 + 1

-- how many times fall into a bin of this width, by the bin's place from 0 on
abbrev pub in_bin : ℕ → List ℕ → ℕ → ℕ
in_bin width times place = count_by (λ time. time / width == place) times

-- how many fall into each of the bins
unfoldable pub bins_of : ℕ → List ℕ → List ℕ
bins_of width times = map (in_bin width times) (range_with_len 0 20)

-- these times spread so
pub record IsHistogramOf (histogram : Histogram) (times : List ℕ) : Type 0 where
  pub wide : histogram.width ≡ bin_width times
  pub counted : histogram.bins ≡ bins_of (bin_width times) times
