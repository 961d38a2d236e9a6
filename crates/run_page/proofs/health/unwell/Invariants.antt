use Rattle.std.proofs.Common.{◌≡◌, ◌-◌, ◌^◌, map, drop}
use Rattle.run_page.specs.Stacks.{tops}
use Rattle.run_page.specs.Health.{health_layer, unwell}
use Rattle.run_page.proofs.health.unwell.Given as goal

-- the values left reach as high on these as all do
abbrev pub invariant-loop-value : goal.invariant-loop-value
invariant-loop-value l = unwell l.run.scenario.now l.run.tallies.now ≡ tops (2 ^ 64 - 1) l.tops.items (map (health_layer l.run.scenario.now l.run.tallies.now (2 ^ 64 - 1)) (drop l.value-index l.values))
