-- Below a common bound the parts may run by themselves.
use Rattle.std.proofs.Common.{◌≡◌, ◌≢◌, ℕ, ◌+◌, ◌<◌, ◌≤◌, Option, Some, None, ap, arith}
use Rattle.std.specs.Option.{IfSome, is_some}
use Rattle.std.specs.FinMap.{get}
use Rattle.base.specs.declared.key.Key.{Key}
use Rattle.base.specs.World.{Machine, World, IsPending, settled, events_of, outcome}
use Rattle.base.specs.Run.{MakesLater, holds-settled}
use Rattle.base.proofs.Rising.{all_weaker}
use Rattle.windows.specs.Delays.{ComesFar, KeepsFar}
use Rattle.windows.specs.Safe.{IsSafeIn}
use Rattle.windows.specs.Parts.{IsReady, OffersWindows}

module _ {S C R : Type 0} (step : Machine S C R) (later : MakesLater step) (end : ℕ) (least_delay : Option ℕ) (Fact : World S C → Type 0) (keeps : KeepsFar end least_delay Fact step) (bound : ℕ) where
  near_by : (d : Option ℕ) (u : World S C) (k : Key) → k.at < bound → IfSome d (λ d. (q : Key) → IsPending u q → bound ≤ q.at + d) → IfSome d (λ d. (q : Key) → IsPending u q → k.at < q.at + d)
  near_by None u k early near = tt
  near_by (Some d) u k early near = λ q here. let h = near q here in omega arith

  near_settled : (d : Option ℕ) (u : World S C) (k : Key) (c : C) → get u.pending k ≡ Some c → IfSome d (λ d. (q : Key) → IsPending u q → bound ≤ q.at + d)
      → IfSome d (λ d. (q : Key) → IsPending (settled u k (outcome step u k c)) q → bound ≤ q.at + d)
  near_settled None u k c here near = tt
  near_settled (Some d) u k c here near =
      let first = near k (ap is_some here) in
      holds-settled step later end (λ q. bound ≤ q.at + d) u k c (λ q there _. near q there) (λ q past. omega arith)

  far_by : (d : Option ℕ) (u : World S C) (k e : Key) → IsPending u k → IfSome d (λ d. (q : Key) → IsPending u q → bound ≤ q.at + d) → ComesFar d k e → e.to ≢ k.to → bound ≤ e.at
  far_by None u k e here near far other = absurd (other far)
  far_by (Some d) u k e here near far other = let h = near k here in let past = far other in omega arith

  pub common_offers : (division : ℕ → ℕ) → OffersWindows division (λ part. bound) (IsSafeIn end least_delay Fact) (IsReady end least_delay Fact bound) step
  common_offers division = record {
    passes = λ w k ready first early. (
      record {
        first = record { here = first.here; least = λ q here same. first.least q here (ap division same) };
        in_time = let h = ready.1.in_time in omega arith;
        near = near_by least_delay w k early ready.1.near;
      },
      ready.0,
    );
    stays = λ w k c ready passes here. (
      keeps.stays w k c ready.0 here passes.0.in_time,
      record { in_time = ready.1.in_time; near = near_settled least_delay w k c here ready.1.near },
    );
    far = λ w k c ready passes here.
        all_weaker _ (λ e. division e.0.to ≢ division k.to → bound ≤ e.0.at)
        (λ e far other. far_by least_delay w k e.0 (ap is_some here) ready.1.near far (λ same. other (ap division same)))
        (events_of (outcome step w k c)) (keeps.far w k c ready.0 here passes.0.in_time);
  }
