-- Whether an event up to the end pends.
use Rattle.std.proofs.Common.{◌≡◌, ℕ, Bool, true, false, ap, ◌∙◌, sym, arith}
use Rattle.std.specs.Bool.{OnTrue, OnFalse}
use Rattle.std.specs.Option.{is_some}
use Rattle.std.specs.Ordering.{is_le, nat_cmp}
use Rattle.std.specs.FinMap.{get, empty, get-empty}
use Rattle.std.proofs.lemmas.Bool.{false≢true}
use Rattle.base.specs.declared.key.Key.{Key}
use Rattle.base.specs.Order.{key_cmp, moments-from_not_before}
use Rattle.base.specs.World.{IsOver}
use Rattle.worker_queue.specs.Queue.{IsLeastKey}
use Rattle.drive_world.specs.declared.world.World.{World as Held}
use Rattle.drive_world.specs.WorldOf.{events_in}
use Rattle.drive_world.specs.DriveOf.{world_of}
use Rattle.drive_world.specs.Turns.{GoesOn}
use Rattle.drive_world.proofs.Pends.{at_most_by_cmp, above_by_cmp}

module _ (end : ℕ) (w : Held) where
  pub goes_on : (b : Bool) (k : Key) → b ≡ is_le (nat_cmp k.at end) → IsLeastKey (events_in w.pending) k → OnTrue b (GoesOn end w)
  goes_on true k is least = record { key = k; least = least; in_time = at_most_by_cmp k.at end is }
  goes_on false k is least = tt

  pub is_over : (b : Bool) (k : Key) → b ≡ is_le (nat_cmp k.at end) → IsLeastKey (events_in w.pending) k → OnFalse b (IsOver end (world_of w))
  is_over true k is least = tt
  is_over false k is least = λ q here.
      let after = moments-from_not_before q k (least.least q here) in
      let late = above_by_cmp k.at end is in omega (arith, after, late)

  pub none_over : events_in w.pending ≡ empty → IsOver end (world_of w)
  none_over none q here = absurd (false≢true (sym (ap (λ m. is_some (get m q)) none ∙ ap is_some (get-empty key_cmp q)) ∙ here))
