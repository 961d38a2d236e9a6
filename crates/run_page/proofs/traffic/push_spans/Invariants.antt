use Rattle.std.proofs.Common.{◌≡◌, ◌++◌, flat_map}
use Rattle.std.specs.String.{string_bytes}
use Rattle.std.specs.List.{range_with_len}
use Rattle.run_page.specs.Traffic.{span_cells}
use Rattle.run_page.proofs.traffic.push_spans.Given as goal

-- the rows of the spans so far
abbrev pub invariant-loop-span : goal.invariant-loop-span
invariant-loop-span l = string_bytes l.text ≡ string_bytes l.initial.text ++ flat_map (span_cells l.run.tick l.run.scenario.now l.run.tallies.now) (range_with_len 0 l.span)
