-- The moment before which the least event of a member is safe.
use Rattle.std.proofs.Common.{◌≡◌, ℕ, ◌+◌, ◌<◌, ◌≤◌, Option, Some, None, ap, ◌∙◌, sym, arith}
use Rattle.std.specs.Option.{IfSome, is_some}
use Rattle.std.specs.FinMap.{get, empty, get-empty}
use Rattle.std.proofs.lemmas.Bool.{false≢true}
use Rattle.base.specs.declared.key.Key.{Key}
use Rattle.base.specs.Order.{key_cmp, moments-from_not_before}
use Rattle.base.specs.World.{World, IsPending}
use Rattle.worker_queue.specs.Queue.{IsLeastKey}
use Rattle.drive_events.specs.declared.content.Content.{Content}
use Rattle.drive_process.specs.Process.{Process}
use Rattle.drive_world.specs.DriveOf.{IsSafeBound}

module _ (end : ℕ) (w : World Process Content) where
  none_near : (d : Option ℕ) (at : ℕ) → w.pending ≡ empty → IfSome d (λ d. (q : Key) → IsPending w q → at < q.at + d)
  none_near None at none = tt
  none_near (Some d) at none = λ q here. absurd (false≢true (sym (ap (λ m. is_some (get m q)) none ∙ ap is_some (get-empty key_cmp q)) ∙ here))

  -- nothing pends
  pub bound_of_none : (d : Option ℕ) → w.pending ≡ empty → IsSafeBound end d w (end + 1)
  bound_of_none d none = record {
    in_time = λ at low. omega (arith, low);
    near = λ at low. none_near d at none;
    below = λ at low near. omega (arith, low);
  }

  -- there is but one member
  pub bound_of_one : IsSafeBound end None w (end + 1)
  bound_of_one = record { in_time = λ at low. omega (arith, low); near = λ at low. tt; below = λ at low near. omega (arith, low) }

  pub bound_of_least : (d : ℕ) (least : Key) (bound : ℕ) → IsLeastKey w.pending least → bound ≤ end + 1 → bound ≤ least.at + d → ((at : ℕ) → at ≤ end → at < least.at + d → at < bound)
      → IsSafeBound end (Some d) w bound
  bound_of_least d least bound is early near all = record {
    in_time = λ at low. omega (arith, low, early);
    near = λ at low q here. let after = moments-from_not_before q least (is.least q here) in omega (arith, low, near, after);
    below = λ at low far. all at low (far least is.here);
  }
