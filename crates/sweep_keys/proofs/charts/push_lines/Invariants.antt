use Rattle.std.proofs.Common.{◌≡◌, ◌++◌}
use Rattle.std.specs.List.{flat_map, range_with_len}
use Rattle.std.specs.String.{string_bytes}
use Rattle.sweep_keys.specs.Keys.{line_over}
use Rattle.sweep_keys.proofs.charts.push_lines.Given as goal

abbrev pub invariant-loop-line : goal.invariant-loop-line
invariant-loop-line l = string_bytes l.text ≡ string_bytes l.fn.text ++ flat_map (line_over l.plot.settings.now l.plot.lines l.plot.statistic l.plot.most) (range_with_len 0 l.line)
