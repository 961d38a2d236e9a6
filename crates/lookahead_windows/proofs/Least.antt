-- First moments: of what pends, by a queue's least key, and of events, one after the other.
use Rattle.std.proofs.Common.{◌≡◌, ◌↔◌, ℕ, ◌≤◌, List, [], ◌∷◌, ◌++◌, Option, Some, None, IfSome, IfNone, ap, ◌∙◌, sym, subst, arith}
use Rattle.std.specs.Option.{option_map, is_some}
use Rattle.std.specs.List.{AllByRecursion}
use Rattle.std.specs.FinMap.{FinMap, contains_key, empty, get-empty}
use Rattle.std.proofs.lemmas.Bool.{false≢true}
use Rattle.base.specs.declared.key.Key.{Key}
use Rattle.base.specs.Order.{key_cmp, moments-from_not_before}
use Rattle.base.proofs.Rising.{all_append}
use Rattle.member.specs.declared.event.Event.{Event}
use Rattle.worker_queue.specs.Queue.{IsLeastKey, NoneIsBelow}
use Rattle.lookahead_windows.specs.Starts.{IsUpTo}
use Rattle.turns.proofs.Bounding.{split_all}

-- no event of a queue is before a moment just where that is up to its least
pub below_least : {C : Type 0} (events : FinMap key_cmp C) (least : Option Key) → IfSome least (IsLeastKey events) → IfNone least (events ≡ empty)
    → (t : ℕ) → NoneIsBelow events t ↔ IsUpTo (option_map (λ (k : Key). k.at) least) t
below_least events None some none t = (λ h. tt, λ h q here. absurd (false≢true (ap is_some (sym (get-empty key_cmp q)) ∙ ap (λ m. contains_key m q) (sym none) ∙ here)))
below_least events (Some k) some none t = (λ h. h k some.here, λ h q here. let least = moments-from_not_before q k (some.least q here) in omega arith)

abbrev IsFrom : ℕ → Event → Type 0
IsFrom t e = t ≤ e.key.at

abbrev AreFrom : ℕ → List Event → Type 0
AreFrom t events = AllByRecursion (IsFrom t) events

-- up to the least moment of events, and to that of one more
pub least_more : (events more : List Event) (event : Event) (least : Option ℕ) (all : Option ℕ) → more ≡ events ++ event ∷ [] → ((t : ℕ) → AreFrom t events ↔ IsUpTo least t)
    → ((t : ℕ) → IsUpTo least t × IsUpTo (Some event.key.at) t ↔ IsUpTo all t) → (t : ℕ) → AreFrom t more ↔ IsUpTo all t
least_more events more event least all one_more so_far lesser t = (
  λ from.
      let both = split_all (IsFrom t) events (event ∷ []) (subst (AreFrom t) one_more from) in
      (lesser t).0 ((so_far t).0 both.0, both.1.0),
  λ up.
      let both = (lesser t).1 up in
      subst (AreFrom t) (sym one_more) (all_append (IsFrom t) events (event ∷ []) ((so_far t).1 both.0) (both.1, tt)),
)
