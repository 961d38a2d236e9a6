use Rattle.std.proofs.Common.{◌≡◌}
use Rattle.std.specs.List.{flat_map, range_with_len}
use Rattle.sweep_page.specs.Points.{points_at}
use Rattle.sweep_page.proofs.front_points.unordered.Given as goal

abbrev pub invariant-loop-place : goal.invariant-loop-place
invariant-loop-place l = l.points.items ≡ flat_map (points_at l.crashed l.settings l.front) (range_with_len 0 l.place)
