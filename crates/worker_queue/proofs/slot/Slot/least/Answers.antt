use Rattle.std.proofs.Common.{◌≡◌, false, All, Any, IfSome, subst}
use Rattle.std.specs.Ordering.{is_lt}
use Rattle.base.specs.Order.{key_cmp}
use Rattle.worker_queue.proofs.Lists.{least_of_list}
use Rattle.worker_queue.proofs.slot.Slot.least.Goals as goal

pub returns-clause-least : goal.returns-clause-least
returns-clause-least g c =
    least_of_list g.E.Keyed.key c.args.self.now.events.items c.least_key.result c.args.self.now.unlike
    (subst (λ l. IfSome c.least_key.result (λ k. Any (λ e. g.E.Keyed.key e ≡ k) l)) c.deref.ensures.value c.least_key.ensures.here)
    (subst (λ l. IfSome c.least_key.result (λ k. All (λ e. is_lt (key_cmp (g.E.Keyed.key e) k) ≡ false) l)) c.deref.ensures.value c.least_key.ensures.least)
