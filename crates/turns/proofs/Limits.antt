-- A common bound of parts, which is a horizon.
use Rattle.std.proofs.Common.{◌≡◌, ℕ, zero, suc, ◌+◌, ◌<◌, ◌≤◌, List, [], ◌∷◌, unwrap_or, Option, Some, None, IfSome, IfOk, Result, Ok, Err, ap, ◌∙◌, sym, subst, refl, arith}
use Rattle.std.specs.Option.{option_map, is_some}
use Rattle.std.specs.List.{AllByRecursion, slice_get}
use Rattle.std.specs.FinMap.{FinMap, get}
use Rattle.std.proofs.lemmas.Bool.{false≢true}
use Rattle.std.proofs.lemmas.Option.{same_Some}
use Rattle.base.specs.declared.key.Key.{Key}
use Rattle.base.specs.Order.{key_cmp}
use Rattle.base.specs.World.{IsPending}
use Rattle.scenario.specs.Setup.{Setup, IsSound}
use Rattle.scenario.specs.Division.{Deal}
use Rattle.member.specs.declared.event.Event.{Event}
use Rattle.member_laws.specs.Runs.{Cluster}
use Rattle.windows.specs.declared.bounded.Bounded.{Bounded}
use Rattle.windows.specs.declared.part.Part.{Part}
use Rattle.windows.specs.Horizon.{AreHorizons}
use Rattle.windows.specs.Cluster.{IsLeastDelay, IsPeopled, LiesBetween, IsWholeCluster}
use Rattle.windows.specs.Several.{parts_of}
use Rattle.windows.proofs.Members.{receiver_low, some_delay}
use Rattle.lookahead.specs.Between.{part_number}
use Rattle.turns.specs.declared.turns.Course.{Course}
use Rattle.turns.specs.Course.{IsCourse}
use Rattle.turns.specs.Parts.{StandFor, AreBounded}
use Rattle.turns.specs.Bounds.{IsFirstMoment}
use Rattle.turns.proofs.Turning.{all_places}
use Rattle.turns.proofs.Goes.{none_of_world}

module _ {Q : Type 0} where
  -- the bound of the part at a place
  abbrev bound_at : List (Bounded Q) → ℕ → ℕ
  bound_at bs i = unwrap_or (option_map (λ (b : Bounded Q). b.bound) (slice_get bs i)) 0

  bound_there : (bs : List (Bounded Q)) (i : ℕ) (b : Bounded Q) → slice_get bs i ≡ Some b → bound_at bs i ≡ b.bound
  bound_there bs i b here = ap (λ o. unwrap_or (option_map (λ (b : Bounded Q). b.bound) o) 0) here

  -- what holds of 0 and of each bound holds at each place
  bound_by : (P : ℕ → Type 0) → P 0 → (bs : List (Bounded Q)) (i : ℕ) → ((b : Bounded Q) → slice_get bs i ≡ Some b → P b.bound) → P (bound_at bs i)
  bound_by P none bs i each = by_value (slice_get bs i) each
    where
      by_value : (o : Option (Bounded Q)) → ((b : Bounded Q) → o ≡ Some b → P b.bound) → P (unwrap_or (option_map (λ (b : Bounded Q). b.bound) o) 0)
      by_value None each = none
      by_value (Some b) each = each b refl

  pub at_each : (P : Bounded Q → Type 0) (bs : List (Bounded Q)) → AllByRecursion P bs → (i : ℕ) (b : Bounded Q) → slice_get bs i ≡ Some b → P b
  at_each P [] all i b here = absurd (false≢true (ap is_some here))
  at_each P (x ∷ bs) all zero b here = subst P (same_Some x b here) all.0
  at_each P (x ∷ bs) all (suc i) b here = at_each P bs all.1 i b here

-- ---- a common bound

module _ (s : Setup) (sound : IsSound s) (division : ℕ → ℕ) (w : Cluster) (bound least : ℕ) (in_time : bound ≤ s.end + 1) (none : (q : Key) → IsPending w q → least ≤ q.at) where
  -- a bound that no event of another member can come before
  record Fits (bounds : ℕ → ℕ) : Type 0 where
    between : ℕ → ℕ → ℕ
    lies : LiesBetween s division between
    are : AreHorizons s.end division (IsPeopled s division) between bounds w

  fits_by : (d : Option ℕ) → IsLeastDelay s d → IfSome d (λ d. bound ≤ least + d) → (bounds : ℕ → ℕ) → ((i : ℕ) → bounds i ≤ bound) → Fits bounds
  fits_by None alone near bounds low = record {
    between = λ p q. 0;
    lies = λ i j here there other. omega arith;
    are = record {
      in_time = λ part. let h = low part in omega (arith, in_time, h);
      clear = λ part q here walk.
          let one = walk.begins in
          let other = walk.apart.1 in
          let same : one.0 ≡ other.0 = let a = one.1 in let b = other.1 in omega (arith, alone, a, b) in
          absurd (walk.apart.0 (sym one.2 ∙ ap division same ∙ other.2));
    };
  }
  fits_by (Some d) is near bounds low = record {
    between = λ p q. d;
    lies = λ i j here there other. is.1 i j (record { sender = here; receiver = there; different = λ same. other (ap division same) });
    are = record {
      in_time = λ part. let h = low part in omega (arith, in_time, h);
      clear = λ part q here walk.
          let first = none q here in
          let h = low part in
          omega (arith, h, near, first);
    };
  }

module _ {Q : Type 0} (set : Q → FinMap key_cmp Event) (course : Course) (is : IsCourse course) (parts : List (Part Q)) (first : ℕ) (found : IsFirstMoment set parts course.end first) where
  abbrev s : Setup
  s = course.cluster.scenario.now

  abbrev deal : Deal
  deal = course.division.now

  none_here : (w : Cluster) → StandFor set deal parts w → IsWholeCluster s w → (q : Key) → IsPending w q → first ≤ q.at
  none_here w stand whole = none_of_world set deal parts w stand first (λ q here. is.below q.to (receiver_low s w q (get w.pending q) whole.sound refl here)) found.none

  -- a common bound, as it was chosen
  pub in_common : (d : Option ℕ) (last bound : ℕ) (bounded : List (Bounded Q)) → IsLeastDelay s d → last ≡ course.end + 1 → bound ≤ last → IfSome d (λ d. bound ≤ first + d) → (IfSome d (λ d. 0 < d) → first < bound)
      → parts_of bounded ≡ parts → AllByRecursion (λ (b : Bounded Q). b.bound ≡ bound) bounded → AreBounded set s deal parts first bounded
  in_common d last bound bounded least ends in_time near past same all = record {
    same = same;
    in_time = all_places (λ (b : Bounded Q). b.bound ≤ s.end + 1) bounded (λ i b here. let e = at_each (λ (b : Bounded Q). b.bound ≡ bound) bounded all i b here in omega (arith, e, in_time, ends, is.end));
    past = all_places (λ (b : Bounded Q). first < b.bound) bounded
        (λ i b here. let e = at_each (λ (b : Bounded Q). b.bound ≡ bound) bounded all i b here in let up = past (some_delay s is.sound d least) in omega (arith, e, up));
    horizons = λ w stand whole.
        let fits = fits_by s is.sound (part_number deal) w bound first (omega (arith, in_time, ends, is.end)) (none_here w stand whole) d least near (bound_at bounded)
        (λ i. bound_by (λ n. n ≤ bound) (omega arith) bounded i (λ b here. let e = at_each (λ (b : Bounded Q). b.bound ≡ bound) bounded all i b here in omega (arith, e))) in
        record { between = fits.between; lies = fits.lies; bounds = bound_at bounded; are = fits.are; each = bound_there bounded };
  }

pub both_ok : {T E : Type 0} {P R S : T → Type 0} (o : Result T E) → ((x : T) → P x → R x → S x) → IfOk o P → IfOk o R → IfOk o S
both_ok (Ok x) f p r = f x p r
both_ok (Err e) f p r = tt
