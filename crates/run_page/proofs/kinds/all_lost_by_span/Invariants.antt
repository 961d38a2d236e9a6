use Rattle.std.proofs.Common.{◌≡◌, ◌-◌, ◌^◌, map, drop}
use Rattle.run_page.specs.Stacks.{tops}
use Rattle.run_page.specs.Traffic.{lost_layer, lost_tops}
use Rattle.run_page.proofs.kinds.all_lost_by_span.Given as goal

-- the kinds left reach as high on these as all do
abbrev pub invariant-loop-kind : goal.invariant-loop-kind
invariant-loop-kind l = lost_tops l.run.scenario.now l.run.tallies.now ≡ tops (2 ^ 64 - 1) l.tops.items (map (lost_layer l.run.scenario.now l.run.tallies.now) (drop l.kind-index l.kinds))
