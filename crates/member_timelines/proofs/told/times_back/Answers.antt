use Rattle.std.proofs.Common.{◌-◌, ◌^◌, ◌∙◌, ap, min, ◌+◌}
use Rattle.std.specs.Prelude.{count_by}
use Rattle.reports.specs.Rows.{rows_in_place}
use Rattle.series.specs.Stories.{revives_in}
use Rattle.member_timelines.proofs.Steps.{sum_within}
use Rattle.member_timelines.proofs.told.times_back.Goals as goal

pub loop-span-preserved : goal.loop-span-preserved
loop-span-preserved c =
    sum_within (λ span. count_by (revives_in c.args.run.now.scenario.now c.args.member span) (rows_in_place c.args.run.now.tallies.now)) c.loop-span.span (2 ^ 64 - 1) _ _ c.loop-span.invariant
    (c.saturating_add-times.ensures ∙ ap (λ x. min (c.loop-span.times + x) (2 ^ 64 - 1)) c.revived_in.ensures)
