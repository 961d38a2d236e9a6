use Rattle.std.proofs.Common.{◌≡◌}
use Rattle.std.specs.List.{flat_map, range_with_len}
use Rattle.sweep_page.specs.Others.{as_good_at}
use Rattle.sweep_page.proofs.others.as_good.Given as goal

abbrev pub invariant-loop-place : goal.invariant-loop-place
invariant-loop-place l = l.places.items ≡ flat_map (as_good_at l.crashed l.wants l.settings l.one l.own) (range_with_len 0 l.place)
