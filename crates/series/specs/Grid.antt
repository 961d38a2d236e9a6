-- Counts by track and span.
use Rattle.std.specs.Prelude.{ℕ, ◌+◌, ◌*◌, slice_index}
use Rattle.series.specs.declared.grid.Grid.{Grid}

-- the count of a track in a span, 0 where nothing was counted yet
abbrev pub count_at : Grid → ℕ → ℕ → ℕ
count_at grid track span = slice_index grid.counts.items (track * 120 + span)
