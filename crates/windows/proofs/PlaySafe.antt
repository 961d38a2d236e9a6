-- Which events lie before the moment up to which all next events are safe.
use Rattle.std.proofs.Common.{◌≡◌, ℕ, ◌<◌, ◌≤◌, Option, Some, None, IfSome, ap, ◌∙◌, sym, arith}
use Rattle.std.specs.Option.{is_some, IfNone}
use Rattle.std.specs.FinMap.{empty, contains_key, get-empty}
use Rattle.std.proofs.lemmas.Bool.{false≢true}
use Rattle.base.specs.declared.key.Key.{Key}
use Rattle.base.specs.Order.{key_cmp, moments-from_not_before}
use Rattle.base.specs.World.{World, IsPending}
use Rattle.worker_queue.specs.Queue.{IsLeastKey, IsLeastKeyFor, NoneIsBelowFor}
use Rattle.windows.specs.Safe.{IsFirstOf, IsSafe}
use Rattle.windows.specs.Play.{NonePasses}
use Rattle.windows.specs.Choosing.{safe_bound}

-- what two facts of a value give, and what the fact of a missing one does
pub of_both : {A : Type 0} (o : Option A) (P Q R : A → Type 0) → ((x : A) → P x → Q x → R x) → IfSome o P → IfSome o Q → IfSome o R
of_both None P Q R gives first second = tt
of_both (Some x) P Q R gives first second = gives x first second

pub of_none : {A : Type 0} (o : Option A) (P Q : Type 0) → (P → Q) → IfNone o P → IfNone o Q
of_none None P Q gives none = gives none
of_none (Some x) P Q gives none = tt

-- what holds in any case holds where there is none
pub if_none : {A : Type 0} (o : Option A) (P : Type 0) → P → IfNone o P
if_none None P given = given
if_none (Some x) P given = tt

module _ {S C : Type 0} (end : ℕ) (w : World S C) where
  first_of : (m : ℕ) (k : Key) → IsLeastKeyFor w.pending m k → IsFirstOf w k
  first_of m k is = record { here = is.here; least = λ q here own. is.least q here (own ∙ is.own) }

  module _ (l : Key) (least : IsLeastKey w.pending l) where
    no_earlier : (q : Key) → IsPending w q → l.at ≤ q.at
    no_earlier q here = moments-from_not_before q l (least.least q here)

    -- the next event of a member, before that moment, is safe
    pub safe_of : (d : Option ℕ) (m : ℕ) (k : Key) → IsLeastKeyFor w.pending m k → k.at < safe_bound end d l.at → IsSafe end d w k
    safe_of None m k is early = record { first = first_of m k is; in_time = omega arith; near = tt }
    safe_of (Some d) m k is early = record { first = first_of m k is; in_time = omega arith; near = λ q here. let low = no_earlier q here in omega arith }

    -- and no other
    pub none_safe : (d : Option ℕ) (m : ℕ) → NoneIsBelowFor w.pending m (safe_bound end d l.at) → NonePasses (IsSafe end d) w m
    none_safe None m none k own safe = let late = none k safe.first.here own in let low = safe.in_time in omega arith
    none_safe (Some d) m none k own safe =
        let late = none k safe.first.here own in
        let low = safe.in_time in
        let near = safe.near l least.here in
        omega arith

  -- where nothing pends no event is safe
  pub none_pending : (d : Option ℕ) (m : ℕ) → w.pending ≡ empty → NonePasses (IsSafe end d) w m
  none_pending d m none k own safe = absurd (false≢true (sym (ap (λ p. contains_key p k) none ∙ ap is_some (get-empty key_cmp k)) ∙ safe.first.here))
