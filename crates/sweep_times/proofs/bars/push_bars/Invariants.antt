use Rattle.std.proofs.Common.{◌≡◌, ◌++◌}
use Rattle.std.specs.List.{flat_map, range_with_len}
use Rattle.std.specs.String.{string_bytes}
use Rattle.sweep_times.specs.Charts.{bar_at}
use Rattle.sweep_times.proofs.bars.push_bars.Given as goal

abbrev pub invariant-loop-bin : goal.invariant-loop-bin
invariant-loop-bin l = string_bytes l.text ≡ string_bytes l.fn.text ++ flat_map (bar_at l.times l.across l.up) (range_with_len 0 l.bin)
