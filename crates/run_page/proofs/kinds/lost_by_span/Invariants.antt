use Rattle.std.proofs.Common.{◌≡◌, map}
use Rattle.std.specs.Prelude.{count_by}
use Rattle.std.specs.List.{range_with_len}
use Rattle.series.specs.Series.{loses_in}
use Rattle.run_page.proofs.kinds.lost_by_span.Given as goal

-- the counts of the spans so far
abbrev pub invariant-loop-span : goal.invariant-loop-span
invariant-loop-span l = l.counts.items ≡ map (λ span. count_by (loses_in l.run.scenario.now l.kind span) l.run.tallies.now) (range_with_len 0 l.span)
