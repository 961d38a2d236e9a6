-- What a machine that keeps its delays makes for other members comes far.
use Rattle.std.proofs.Common.{◌≢◌, ℕ, ◌+◌, ◌≤◌, List, [], ◌∷◌, Option, Some, None, sym, arith}
use Rattle.std.specs.List.{AllByRecursion}
use Rattle.std.specs.Option.{option_map}
use Rattle.std.specs.FinMap.{get}
use Rattle.base.specs.declared.key.Key.{Key}
use Rattle.base.specs.World.{Machine, events_of}
use Rattle.base.proofs.Rising.{all_weaker}
use Rattle.windows.specs.Delays.{KeepsDelays, ComesFar, KeepsFar, IsNoMore}

pub all_both : {A : Type 0} (P Q : A → Type 0) (xs : List A) → AllByRecursion P xs → AllByRecursion Q xs → AllByRecursion (λ x. P x × Q x) xs
all_both P Q [] first second = tt
all_both P Q (x ∷ xs) first second = ((first.0, second.0), all_both P Q xs first.1 second.1)

module _ (IsMember : ℕ → Type 0) (delay : ℕ → ℕ → ℕ) where
  comes_far : (least_delay : Option ℕ) → IsNoMore IsMember delay least_delay → (k e : Key) → IsMember k.to → IsMember e.to → (e.to ≢ k.to → k.at + delay k.to e.to ≤ e.at) → ComesFar least_delay k e
  comes_far None one k e here there delayed = one e.to k.to there here
  comes_far (Some d) least k e here there delayed = λ other. let h = least k.to e.to here there (λ same. other (sym same)) in let late = delayed other in omega arith

  pub far_made : {S C R : Type 0} (step : Machine S C R) → KeepsDelays delay step → (least_delay : Option ℕ) → IsNoMore IsMember delay least_delay
      → (k : Key) (c : C) (s : S) → IsMember k.to → AllByRecursion (λ e. IsMember e.0.to) (step k c s).events → AllByRecursion (λ e. ComesFar least_delay k e.0) (step k c s).events
  far_made step keeps least_delay least k c s here there =
      all_weaker _ (λ e. ComesFar least_delay k e.0) (λ e h. comes_far least_delay least k e.0 here h.0 h.1) (step k c s).events
      (all_both (λ e. IsMember e.0.to) (λ e. e.0.to ≢ k.to → k.at + delay k.to e.0.to ≤ e.0.at) (step k c s).events there (keeps.delayed k c s))

module _ {S C R : Type 0} (delay : ℕ → ℕ → ℕ) (step : Machine S C R) (keeps : KeepsDelays delay step) (least_delay : Option ℕ) (least : IsNoMore (λ m. Unit {0}) delay least_delay) where
  any_member : (es : List (Key × C)) → AllByRecursion (λ e. Unit {0}) es
  any_member [] = tt
  any_member (e ∷ es) = (tt, any_member es)

  far_here : (k : Key) (c : C) (o : Option S) → AllByRecursion (λ e. ComesFar least_delay k e.0) (events_of (option_map (step k c) o))
  far_here k c None = tt
  far_here k c (Some s) = far_made (λ m. Unit {0}) delay step keeps least_delay least k c s tt (any_member (step k c s).events)

  -- where the delays of all pairs of numbers are no less, no fact of the world is needed
  pub keeps_far : (end : ℕ) → KeepsFar end least_delay (λ w. Unit {0}) step
  keeps_far end = record { stays = λ w k c fact here in_time. tt; far = λ w k c fact here in_time. far_here k c (get w.members k.to) }
