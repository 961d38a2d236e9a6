use Rattle.std.proofs.Common.{◌≡◌, ◌++◌}
use Rattle.std.specs.List.{flat_map, range_with_len}
use Rattle.std.specs.String.{string_bytes}
use Rattle.sweep_keys.specs.Keys.{legend_entry}
use Rattle.sweep_keys.proofs.legend.push_entries.Given as goal

abbrev pub invariant-loop-line : goal.invariant-loop-line
invariant-loop-line l = string_bytes l.text ≡ string_bytes l.fn.text ++ flat_map (legend_entry l.plan.swept_keys l.lines l.key) (range_with_len 0 l.line)
