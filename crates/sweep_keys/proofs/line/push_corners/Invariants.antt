use Rattle.std.proofs.Common.{◌≡◌, ◌++◌}
use Rattle.std.specs.List.{flat_map, range_with_len}
use Rattle.std.specs.String.{string_bytes}
use Rattle.sweep_keys.specs.Keys.{corner_over}
use Rattle.sweep_keys.proofs.line.push_corners.Given as goal

abbrev pub invariant-loop-value : goal.invariant-loop-value
invariant-loop-value l = string_bytes l.text ≡ string_bytes l.fn.text ++ flat_map (corner_over l.plot.settings.now l.plot.lines l.plot.statistic l.plot.most l.line) (range_with_len 0 l.value)
