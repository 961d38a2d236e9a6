-- The health after any list of signs.
use Rattle.std.proofs.Common.{◌≡◌, ◌≤◌, List, [], ◌∷◌, refl, arith}
use Rattle.lifeguard.specs.Health.{LocalHealth, Sign, answered, failed, lowered, raised, after_signs}

pub counter-after_signs : (h : LocalHealth) (signs : List Sign) → h.counter ≤ h.ceiling → (after_signs h signs).counter ≤ h.ceiling
counter-after_signs h [] within = within
counter-after_signs h (answered ∷ signs) within = counter-after_signs (lowered h) signs (omega (arith, within))
counter-after_signs h (failed ∷ signs) within = counter-after_signs (raised h 1) signs (omega (arith, within))

pub ceiling-after_signs : (h : LocalHealth) (signs : List Sign) → (after_signs h signs).ceiling ≡ h.ceiling
ceiling-after_signs h [] = refl
ceiling-after_signs h (answered ∷ signs) = ceiling-after_signs (lowered h) signs
ceiling-after_signs h (failed ∷ signs) = ceiling-after_signs (raised h 1) signs
