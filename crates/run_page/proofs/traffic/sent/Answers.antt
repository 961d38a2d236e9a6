use Rattle.std.proofs.Common.{◌+◌, ◌-◌, ◌^◌, min, ap, ◌∙◌}
use Rattle.reports.specs.Rows.{count_of}
use Rattle.run_page.proofs.Stacking.{sum_of_items}
use Rattle.run_page.proofs.traffic.sent.Goals as goal

pub loop-kind-preserved : goal.loop-kind-preserved
loop-kind-preserved c =
    sum_of_items (λ kind. count_of kind c.args.run.now.tallies.now) c.kinds-kinds.result.now c.loop-kind.kind-index _ (2 ^ 64 - 1) _ _ c.loop-kind-test.true c.loop-kind.invariant
    (c.saturating_add-all.ensures ∙ ap (λ x. min (c.loop-kind.all + x) (2 ^ 64 - 1)) c.rows_of.ensures)
