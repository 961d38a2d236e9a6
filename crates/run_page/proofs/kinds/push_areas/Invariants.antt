use Rattle.std.proofs.Common.{◌≡◌, ◌++◌, map, drop}
use Rattle.std.specs.String.{string_bytes}
use Rattle.run_page.specs.Stacks.{layers}
use Rattle.run_page.specs.Traffic.{sent_layer, sent_areas}
use Rattle.run_page.proofs.kinds.push_areas.Given as goal

-- the areas of the kinds left are still to be appended
abbrev pub invariant-loop-kind : goal.invariant-loop-kind
invariant-loop-kind l =
    string_bytes l.initial.text ++ sent_areas l.run.scenario.now l.run.tallies.now l.most
    ≡ string_bytes l.text ++ layers l.run.scenario.now l.most l.bases.items (map (sent_layer l.run.scenario.now l.run.tallies.now) (drop l.kind-index l.kinds))
