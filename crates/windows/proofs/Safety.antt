-- A safe event may be handled before its turn.
use Rattle.std.proofs.Common.{◌≡◌, ◌≢◌, ℕ, ◌+◌, ◌<◌, ◌≤◌, true, List, Option, Some, None, ap, ◌∙◌, sym, subst, arith}
use Rattle.std.specs.Option.{IfSome, is_some}
use Rattle.std.specs.List.{AllByRecursion}
use Rattle.std.specs.FinMap.{get, contains_key, remove}
use Rattle.base.specs.declared.key.Key.{Key}
use Rattle.base.specs.Order.{IsBefore, moments-from_before}
use Rattle.base.specs.World.{Machine, World, IsPending, settled, events_of, outcome, NextStep}
use Rattle.base.specs.Run.{MakesLater, holds-with_events, contains-remove}
use Rattle.base.proofs.Rising.{all_weaker}
use Rattle.windows.specs.Delays.{ComesFar, KeepsFar}
use Rattle.windows.specs.Safe.{IsSafeIn}
use Rattle.windows.specs.Schedule.{OffersEarly}
use Rattle.windows.proofs.Swaps.{NoneIs, pending_settled}
use Rattle.windows.proofs.Early.{content_stays, receivers_differ, events_later, least_no_later, unlike_later}

module _ {S C R : Type 0} (step : Machine S C R) where
  -- what holds of the pending events and of those made holds of all that pend after the step
  pub holds_made : (P : Key → Type 0) (w : World S C) (q : Key) (c : C) → ((r : Key) → IsPending w r → P r) → AllByRecursion (λ e. P e.0) (events_of (outcome step w q c))
      → (r : Key) → IsPending (settled w q (outcome step w q c)) r → P r
  holds_made P w q c old new r here =
      holds-with_events P (events_of (outcome step w q c)) (remove w.pending q) (λ t there. old t (contains-remove w.pending q t there).0) new r
      (subst (λ m. contains_key m r ≡ true) (pending_settled w q (outcome step w q c)) here)

  pub holds_after : (P : Key → Type 0) (w v : World S C) (q : Key) (made : List R) (next : NextStep step w q v made)
      → ((r : Key) → IsPending w r → P r) → AllByRecursion (λ e. P e.0) (events_of (outcome step w q next.content)) → (r : Key) → IsPending v r → P r
  holds_after P w v q made next old new r here = holds_made P w q next.content old new r (subst (λ u. IsPending u r) next.world here)

module _ {S C R : Type 0} (step : Machine S C R) (later : MakesLater step) (end : ℕ) (least_delay : Option ℕ) (Fact : World S C → Type 0) (keeps : KeepsFar end least_delay Fact step) where
  module _ (w v : World S C) (k q : Key) (made : List R) (safe : IsSafeIn end least_delay Fact w k) (next : NextStep step w q v made) (other : q ≢ k) where
    in_time : q.at ≤ end
    in_time = let low = least_no_later step w v k q made next safe.0.first.here in let h = safe.0.in_time in omega arith

    reaches : (d : Option ℕ) (e : Key) → q.to ≢ k.to → IfSome d (λ d. (r : Key) → IsPending w r → k.at < r.at + d) → ComesFar d q e → e.to ≡ k.to → k.at < e.at
    reaches None e apart near far same = absurd (apart (sym far ∙ same))
    reaches (Some d) e apart near far same =
        let h = near q (ap is_some next.here) in
        let past = far (λ back. apart (sym back ∙ same)) in
        omega arith

    untouched : AllByRecursion (λ e. e.0.to ≡ k.to → k.at < e.0.at) (events_of (outcome step w q next.content))
    untouched =
        all_weaker _ (λ e. e.0.to ≡ k.to → k.at < e.0.at)
        (λ e far. reaches least_delay e.0 (receivers_differ step w v k q made safe.0.first next other) safe.0.near far)
        (events_of (outcome step w q next.content)) (keeps.far w q next.content safe.1 next.here in_time)

    leaves : NoneIs k (events_of (outcome step w q next.content))
    leaves = unlike_later k (events_of (outcome step w q next.content)) untouched

    near_after : (d : Option ℕ) → IfSome d (λ d. (r : Key) → IsPending w r → k.at < r.at + d) → IfSome d (λ d. (r : Key) → IsPending v r → k.at < r.at + d)
    near_after None near = tt
    near_after (Some d) near =
        let h = near q (ap is_some next.here) in
        holds_after step (λ r. k.at < r.at + d) w v q made next near
        (all_weaker _ (λ e. k.at < e.0.at + d) (λ e past. omega arith) (events_of (outcome step w q next.content)) (events_later step later w q next.content))

    stays : IsSafeIn end least_delay Fact v k
    stays = (
      record {
        first = record {
          here = ap is_some (ap (λ (u : World S C). get u.pending k) next.world ∙ content_stays w q k (outcome step w q next.content) other leaves) ∙ safe.0.first.here;
          least = holds_after step (λ r. r.to ≡ k.to → ¬ (IsBefore r k)) w v q made next safe.0.first.least
              (all_weaker _ (λ e. e.0.to ≡ k.to → ¬ (IsBefore e.0 k)) (λ e past same before. let h = past same in let low = moments-from_before e.0 k before in omega arith)
              (events_of (outcome step w q next.content)) untouched);
        };
        in_time = safe.0.in_time;
        near = near_after least_delay safe.0.near;
      },
      subst Fact (sym next.world) (keeps.stays w q next.content safe.1 next.here in_time),
    )

  -- an event that is safe may be handled before its turn
  pub safe_offers : OffersEarly step end (IsSafeIn end least_delay Fact)
  safe_offers = record {
    first = λ w k safe. safe.0.first;
    in_time = λ w k safe. safe.0.in_time;
    stays = λ w v k q made safe next other. stays w v k q made safe next other;
    untouched = λ w v k q made safe next other. untouched w v k q made safe next other;
  }
