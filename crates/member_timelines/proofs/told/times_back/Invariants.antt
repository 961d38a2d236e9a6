use Rattle.std.proofs.Common.{◌≡◌, ◌-◌, ◌^◌, min}
use Rattle.std.specs.Prelude.{sum_by, count_by}
use Rattle.std.specs.List.{range_with_len}
use Rattle.reports.specs.Rows.{rows_in_place}
use Rattle.series.specs.Stories.{revives_in}
use Rattle.member_timelines.proofs.told.times_back.Given as goal

-- the times of the spans so far
abbrev pub invariant-loop-span : goal.invariant-loop-span
invariant-loop-span l = l.times ≡ min (sum_by (λ span. count_by (revives_in l.run.scenario.now l.member span) (rows_in_place l.run.tallies.now)) (range_with_len 0 l.span)) (2 ^ 64 - 1)
