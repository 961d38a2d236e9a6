use Rattle.std.proofs.Common.{◌≡◌, false, take}
use Rattle.std.specs.List.{list_any}
use Rattle.sweep_page.specs.Best.{has_place}
use Rattle.sweep_page.proofs.best.has_place.Given as goal

-- none so far stands there
abbrev pub invariant-loop-point : goal.invariant-loop-point
invariant-loop-point l = list_any (has_place l.place) (take l.point-index l.points) ≡ false
