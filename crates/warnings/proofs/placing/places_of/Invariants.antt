use Rattle.std.proofs.Common.{◌≡◌, map, take}
use Rattle.warnings.proofs.placing.places_of.Given as goal

abbrev pub invariant-loop-warning : goal.invariant-loop-warning
invariant-loop-warning l = map (λ p. p.warning) l.placed.items ≡ take l.warning-index l.warnings
