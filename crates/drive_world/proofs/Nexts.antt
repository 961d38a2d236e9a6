-- The first free event before the bound is sent next.
use Rattle.std.proofs.Common.{◌≡◌, ◌≢◌, ℕ, Bool, true, false, ◌||◌, nat_eq, List, [], ◌∷◌, Option, ◌∙◌, sym, subst, refl, arith}
use Rattle.std.specs.List.{AllByRecursion}
use Rattle.std.proofs.lemmas.Bool.{false≢true, eqb-true, eq-eqb}
use Rattle.base.specs.declared.key.Key.{Key}
use Rattle.base.specs.Order.{moments-from_before}
use Rattle.scenario.specs.Setup.{Setup}
use Rattle.drive_world.specs.Telling.{Drive, MayBeTold, IsNext, NoneMay}
use Rattle.drive_world.specs.DriveOf.{IsSafeBound}
use Rattle.drive_world.specs.Next.{has_one_for, IsFreeBelow, IsFirstFree}

neither : (a b : Bool) → (a || b) ≡ false → (a ≡ false) × (b ≡ false)
neither true b h = absurd (false≢true (sym h))
neither false b h = (refl, h)

both_false : (a b : Bool) → a ≡ false → b ≡ false → (a || b) ≡ false
both_false true b first second = absurd (false≢true (sym first))
both_false false b first second = second

unlike : (a b : ℕ) (t : Bool) → nat_eq a b ≡ t → a ≢ b → t ≡ false
unlike a b true e other = absurd (other (eqb-true a b e))
unlike a b false e other = refl

-- no event for the member waits
pub free_by : (m : ℕ) (keys : List Key) → has_one_for m keys ≡ false → AllByRecursion (λ q. q.to ≢ m) keys
free_by m [] none = tt
free_by m (q ∷ keys) none =
    let both = neither (nat_eq q.to m) (has_one_for m keys) none in
    (λ same. false≢true (sym both.0 ∙ eq-eqb q.to m same), free_by m keys both.1)

pub none_for : (m : ℕ) (keys : List Key) → AllByRecursion (λ q. q.to ≢ m) keys → has_one_for m keys ≡ false
none_for m [] free = refl
none_for m (q ∷ keys) free = both_false (nat_eq q.to m) (has_one_for m keys) (unlike q.to m (nat_eq q.to m) refl free.0) (none_for m keys free.1)

module _ (s : Setup) (least_delay : Option ℕ) (d : Drive) (bound : ℕ) (is : IsSafeBound s.end least_delay d.world bound) where
  -- an event that may be sent is free before the bound
  free_before : (q : Key) → MayBeTold s least_delay d q → IsFreeBelow bound d.world.pending d.waiting q
  free_before q may = record {
    here = may.safe.first.here;
    below = is.below q.at may.safe.in_time may.safe.near;
    free = none_for q.to d.waiting may.free;
  }

  pub next_by : (k : Key) → IsFirstFree bound d.world.pending d.waiting k → IsNext s least_delay d k
  next_by k first =
      let low = first.is.below in
      record {
        may = record {
          safe = record {
            first = record {
              here = first.is.here;
              least = λ q here same before.
                  let earlier = moments-from_before q k before in
                  first.least q (record { here = here; below = omega (arith, earlier, low); free = subst (λ m. has_one_for m d.waiting ≡ false) (sym same) first.is.free }) before;
            };
            in_time = is.in_time k.at low;
            near = is.near k.at low;
          };
          free = free_by k.to d.waiting first.is.free;
        };
        least = λ q may before. first.least q (free_before q may) before;
      }

  pub none_may : ((k : Key) → ¬ (IsFreeBelow bound d.world.pending d.waiting k)) → NoneMay s least_delay d
  none_may none k may = none k (free_before k may)
