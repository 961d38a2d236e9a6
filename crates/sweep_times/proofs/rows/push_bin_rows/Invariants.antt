use Rattle.std.proofs.Common.{◌≡◌, ◌++◌}
use Rattle.std.specs.List.{flat_map, range_with_len}
use Rattle.std.specs.String.{string_bytes}
use Rattle.sweep_times.specs.Times.{row_at}
use Rattle.sweep_times.proofs.rows.push_bin_rows.Given as goal

abbrev pub invariant-loop-bin : goal.invariant-loop-bin
invariant-loop-bin l = string_bytes l.text ≡ string_bytes l.fn.text ++ flat_map (row_at l.time l.times l.place) (range_with_len 0 l.bin)
