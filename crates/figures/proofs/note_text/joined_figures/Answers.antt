use Rattle.reports.specs.Text.{figure}
use Rattle.sweep_plan.proofs.Joined.{joined_more}
use Rattle.figures.proofs.note_text.joined_figures.Goals as goal

pub loop-place-preserved : goal.loop-place-preserved
loop-place-preserved c =
    joined_more 32 figure c.args.figures.now c.loop-place.place _ _ _ _ c.loop-place-test.true c.in_ok-push_figure.ensures c.in_ok-push_space.ensures c.loop-place.invariant
