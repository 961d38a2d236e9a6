use Rattle.std.proofs.Common.{◌≡◌}
use Rattle.std.specs.List.{flat_map, range_with_len}
use Rattle.sweep_page.specs.Others.{beating_at}
use Rattle.sweep_page.proofs.others.beating.Given as goal

abbrev pub invariant-loop-place : goal.invariant-loop-place
invariant-loop-place l = l.places.items ≡ flat_map (beating_at l.crashed l.settings l.one) (range_with_len 0 l.place)
