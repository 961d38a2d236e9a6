-- What is appended for each item of a mapped list.
use Rattle.std.proofs.Common.{◌≡◌, ℕ, List, [], ◌∷◌, ◌++◌, map, flat_map, refl, ap}

pub flat_map_of_map : {X Y : Type 0} (f : Y → List ℕ) (g : X → Y) (xs : List X) → flat_map (λ x. f (g x)) xs ≡ flat_map f (map g xs)
flat_map_of_map f g [] = refl
flat_map_of_map f g (x ∷ xs) = ap (λ l. f (g x) ++ l) (flat_map_of_map f g xs)
