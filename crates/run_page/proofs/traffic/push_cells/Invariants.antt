use Rattle.std.proofs.Common.{◌≡◌, ◌++◌, take, flat_map}
use Rattle.std.specs.String.{string_bytes}
use Rattle.run_page.specs.Traffic.{cells}
use Rattle.run_page.proofs.traffic.push_cells.Given as goal

-- the cells of the kinds so far
abbrev pub invariant-loop-kind : goal.invariant-loop-kind
invariant-loop-kind l = string_bytes l.text ≡ string_bytes l.initial.text ++ flat_map (cells l.run.scenario.now l.run.tallies.now l.span) (take l.kind-index l.kinds)
