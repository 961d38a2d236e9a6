use Rattle.std.proofs.Common.{◌≡◌, map, take}
use Rattle.toml.specs.View.{view}
use Rattle.scenario_reader.specs.Spans.{slow_of, span_in}
use Rattle.scenario_reader.proofs.pairs.list_spans.Given as goal

abbrev pub invariant-loop-i : goal.invariant-loop-i
invariant-loop-i l = map slow_of l.spans.items ≡ map (λ v. span_in l.section l.roster (view v)) (take l.i l.list)
