-- Who has a state keeps having one, whichever events are handled.
use Rattle.std.proofs.Common.{◌≡◌, ℕ, List, [], ◌∷◌, Option, Some, None, ap, ◌∙◌, refl}
use Rattle.std.specs.Option.{option_map}
use Rattle.std.specs.FinMap.{get, contains_key}
use Rattle.base.specs.declared.key.Key.{Key}
use Rattle.base.specs.World.{Machine, World, settled}
use Rattle.windows.specs.Schedule.{Schedule}
use Rattle.windows.proofs.PartRuns.{same_own}

module _ {S C R : Type 0} (step : Machine S C R) where
  settled_has : (w : World S C) (k : Key) (c : C) (o : Option S) → get w.members k.to ≡ o → (m : ℕ) → contains_key (settled w k (option_map (step k c) o)).members m ≡ contains_key w.members m
  settled_has w k c None none m = refl
  settled_has w k c (Some t) here m = same_own w.members k.to t (step k c t).state here m

  pub still_has : (Test : World S C → Key → Type 0) (ks : List Key) (w v : World S C) (rows : List R) → Schedule step Test w ks rows v → (m : ℕ) → contains_key v.members m ≡ contains_key w.members m
  still_has Test [] w v rows is m = ap (λ (u : World S C). contains_key u.members m) is.0
  still_has Test (k ∷ ks) w v rows is m =
      still_has Test ks is.0 v is.2 is.4 m ∙ ap (λ (u : World S C). contains_key u.members m) is.3.world ∙ settled_has w k is.3.content (get w.members k.to) refl m
