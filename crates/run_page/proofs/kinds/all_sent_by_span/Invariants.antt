use Rattle.std.proofs.Common.{◌≡◌, ◌-◌, ◌^◌, map, drop}
use Rattle.run_page.specs.Stacks.{tops}
use Rattle.run_page.specs.Traffic.{sent_layer, sent_tops}
use Rattle.run_page.proofs.kinds.all_sent_by_span.Given as goal

-- the kinds left reach as high on these as all do
abbrev pub invariant-loop-kind : goal.invariant-loop-kind
invariant-loop-kind l = sent_tops l.run.scenario.now l.run.tallies.now ≡ tops (2 ^ 64 - 1) l.tops.items (map (sent_layer l.run.scenario.now l.run.tallies.now) (drop l.kind-index l.kinds))
