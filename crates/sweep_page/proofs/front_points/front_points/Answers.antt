use Rattle.sweep_page.specs.Points.{front_points}
use Rattle.sweep_page.proofs.Places.{in_one_order}
use Rattle.sweep_page.proofs.front_points.front_points.Goals as goal

pub returns : goal.returns
unfolding front_points
returns c = in_one_order c.args.crashed c.args.settings.now c.args.front.now _ _ c.in_ok-points.ensures c.in_ok-sort.ensures.permutation c.in_ok-sort.ensures.sorted
