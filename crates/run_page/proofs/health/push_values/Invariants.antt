use Rattle.std.proofs.Common.{◌≡◌, ◌++◌, take, flat_map}
use Rattle.std.specs.String.{string_bytes}
use Rattle.run_page.specs.Health.{value_rows}
use Rattle.run_page.proofs.health.push_values.Given as goal

-- the rows of the values so far
abbrev pub invariant-loop-value : goal.invariant-loop-value
invariant-loop-value l = string_bytes l.text ≡ string_bytes l.initial.text ++ flat_map (value_rows l.run.tick l.run.scenario.now l.run.tallies.now) (take l.value-index l.values)
