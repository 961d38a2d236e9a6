-- What is safe stays so while another member's safe event is handled.
use Rattle.std.proofs.Common.{◌≡◌, ◌≢◌, ℕ, ◌+◌, ◌<◌, Option, Some, None, ap, ◌∙◌, sym, arith}
use Rattle.std.specs.Option.{IfSome, is_some}
use Rattle.std.specs.List.{AllByRecursion}
use Rattle.std.specs.FinMap.{get}
use Rattle.base.specs.declared.key.Key.{Key}
use Rattle.base.specs.Order.{IsBefore, moments-from_before}
use Rattle.base.specs.World.{Machine, World, IsPending, settled, events_of, outcome}
use Rattle.base.specs.Run.{MakesLater}
use Rattle.base.proofs.Rising.{all_weaker}
use Rattle.windows.specs.Delays.{ComesFar, KeepsFar}
use Rattle.windows.specs.Safe.{IsSafe}
use Rattle.windows.proofs.Swaps.{NoneIs}
use Rattle.windows.proofs.Early.{content_stays, events_later, unlike_later}
use Rattle.windows.proofs.Safety.{holds_made}

module _ {S C R : Type 0} (step : Machine S C R) (later : MakesLater step) (end : ℕ) (least_delay : Option ℕ) (Fact : World S C → Type 0) (keeps : KeepsFar end least_delay Fact step) where
  module _ (w : World S C) (k q : Key) (c : C) (safe : IsSafe end least_delay w k) (other : IsSafe end least_delay w q) (fact : Fact w) (here : get w.pending q ≡ Some c) (apart : q.to ≢ k.to) where
    reaches : (d : Option ℕ) (e : Key) → IfSome d (λ d. (r : Key) → IsPending w r → k.at < r.at + d) → ComesFar d q e → e.to ≡ k.to → k.at < e.at
    reaches None e near far same = absurd (apart (sym far ∙ same))
    reaches (Some d) e near far same =
        let h = near q (ap is_some here) in
        let past = far (λ back. apart (sym back ∙ same)) in
        omega arith

    untouched : AllByRecursion (λ e. e.0.to ≡ k.to → k.at < e.0.at) (events_of (outcome step w q c))
    untouched =
        all_weaker _ (λ e. e.0.to ≡ k.to → k.at < e.0.at) (λ e far. reaches least_delay e.0 safe.near far)
        (events_of (outcome step w q c)) (keeps.far w q c fact here other.in_time)

    leaves : NoneIs k (events_of (outcome step w q c))
    leaves = unlike_later k (events_of (outcome step w q c)) untouched

    near_after : (d : Option ℕ) → IfSome d (λ d. (r : Key) → IsPending w r → k.at < r.at + d) → IfSome d (λ d. (r : Key) → IsPending (settled w q (outcome step w q c)) r → k.at < r.at + d)
    near_after None near = tt
    near_after (Some d) near =
        let h = near q (ap is_some here) in
        holds_made step (λ r. k.at < r.at + d) w q c near
        (all_weaker _ (λ e. k.at < e.0.at + d) (λ e past. omega arith) (events_of (outcome step w q c)) (events_later step later w q c))

    pub safe_kept : IsSafe end least_delay (settled w q (outcome step w q c)) k
    safe_kept = record {
      first = record {
        here = ap is_some (content_stays w q k (outcome step w q c) (λ same. apart (ap (λ (r : Key). r.to) same)) leaves) ∙ safe.first.here;
        least = holds_made step (λ r. r.to ≡ k.to → ¬ (IsBefore r k)) w q c safe.first.least
            (all_weaker _ (λ e. e.0.to ≡ k.to → ¬ (IsBefore e.0 k)) (λ e past same before. let h = past same in let low = moments-from_before e.0 k before in omega arith)
            (events_of (outcome step w q c)) untouched);
      };
      in_time = safe.in_time;
      near = near_after least_delay safe.near;
    }
