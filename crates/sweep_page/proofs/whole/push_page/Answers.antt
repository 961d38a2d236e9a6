use Rattle.drawing.proofs.Pushes.{and_then}
use Rattle.sweep_page.specs.Page.{page_over}
use Rattle.sweep_page.proofs.whole.push_page.Goals as goal

pub returns : goal.returns
unfolding page_over
returns c = and_then _ _ _ (and_then _ _ _ (and_then _ _ _ (and_then _ _ _ (and_then _ _ _ (and_then _ _ _ c.in_ok-push_head.ensures c.in_ok-push_question.ensures) c.in_ok-push_summary.ensures) c.in_ok-push_front_where.ensures) c.in_ok-push_times_where.ensures) c.in_ok-push_table.ensures) c.in_ok-push_end.ensures
