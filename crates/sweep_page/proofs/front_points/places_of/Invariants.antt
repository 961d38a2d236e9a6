use Rattle.std.proofs.Common.{◌≡◌, take, map}
use Rattle.sweep_page.specs.declared.front_points.FrontPoint.{FrontPoint}
use Rattle.sweep_page.proofs.front_points.places_of.Given as goal

abbrev pub invariant-loop-point : goal.invariant-loop-point
invariant-loop-point l = l.places.items ≡ map (λ (p : FrontPoint). p.place) (take l.point-index l.points)
