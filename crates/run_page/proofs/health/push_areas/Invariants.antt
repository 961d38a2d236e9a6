use Rattle.std.proofs.Common.{◌≡◌, ◌++◌, map, drop}
use Rattle.std.specs.String.{string_bytes}
use Rattle.run_page.specs.Stacks.{layers}
use Rattle.run_page.specs.Health.{health_layer, health_areas}
use Rattle.run_page.proofs.health.push_areas.Given as goal

-- the areas of the values left are still to be appended
abbrev pub invariant-loop-value : goal.invariant-loop-value
invariant-loop-value l = string_bytes l.initial.text ++ health_areas l.run.scenario.now l.run.tallies.now l.most ≡ string_bytes l.text ++ layers l.run.scenario.now l.most l.bases.items (map (health_layer l.run.scenario.now l.run.tallies.now l.most) (drop l.value-index l.values))
