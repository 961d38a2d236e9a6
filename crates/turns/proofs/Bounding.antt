-- The least moment that pends in parts.
use Rattle.std.proofs.Common.{◌≡◌, ◌↔◌, ℕ, List, [], ◌∷◌, ◌++◌, Option, Some, None, IfSome, IfNone, ap, ◌∙◌, sym, subst, arith}
use Rattle.std.specs.Option.{option_map, is_some}
use Rattle.std.specs.List.{AllByRecursion}
use Rattle.std.specs.FinMap.{FinMap, contains_key, empty, get-empty}
use Rattle.std.proofs.lemmas.Bool.{false≢true}
use Rattle.base.specs.declared.key.Key.{Key}
use Rattle.base.specs.Order.{key_cmp, moments-from_not_before}
use Rattle.base.proofs.Rising.{all_append}
use Rattle.links.specs.Least.{lesser_of}
use Rattle.member.specs.declared.event.Event.{Event}
use Rattle.windows.specs.declared.part.Part.{Part}
use Rattle.windows.specs.WorldOf.{world_of}
use Rattle.worker_queue.specs.Queue.{IsLeastKey, NoneIsBelow}
use Rattle.turns.specs.Parts.{IsUpTo, NonePendsBefore, IsLeastMoment}

abbrev pub moment_of : Option Key → Option ℕ
moment_of key = option_map (λ k. k.at) key

-- no event of a queue is before a moment just where that is up to its least
pub below_least : {C : Type 0} (events : FinMap key_cmp C) (least : Option Key) → IfSome least (IsLeastKey events) → IfNone least (events ≡ empty) → (t : ℕ) → NoneIsBelow events t ↔ IsUpTo (moment_of least) t
below_least events None some none t = (λ h. tt, λ h q here. absurd (false≢true (ap is_some (sym (get-empty key_cmp q)) ∙ ap (λ m. contains_key m q) (sym none) ∙ here)))
below_least events (Some k) some none t = (λ h. h k some.here, λ h q here. let least = moments-from_not_before q k (some.least q here) in omega arith)

up_to_lesser : (a b : Option ℕ) (t : ℕ) → IsUpTo a t × IsUpTo b t ↔ IsUpTo (lesser_of a b) t
up_to_lesser None b t = (λ h. h.1, λ h. (tt, h))
up_to_lesser (Some a) None t = (λ h. h.0, λ h. (h, tt))
up_to_lesser (Some a) (Some b) t = (λ h. let x = h.0 in let y = h.1 in omega arith, λ h. (omega arith, omega arith))

pub split_all : {A : Type 0} (P : A → Type 0) (xs ys : List A) → AllByRecursion P (xs ++ ys) → AllByRecursion P xs × AllByRecursion P ys
split_all P [] ys all = (tt, all)
split_all P (x ∷ xs) ys all = let rest = split_all P xs ys all.1 in ((all.0, rest.0), rest.1)

module _ {Q : Type 0} (set : Q → FinMap key_cmp Event) where
  pub least_so_far : (parts more : List (Part Q)) (part : Part Q) (least : Option ℕ) (key : Option Key) → more ≡ parts ++ part ∷ [] → IsLeastMoment set parts least
      → IfSome key (IsLeastKey (world_of set part).pending) → IfNone key ((world_of set part).pending ≡ empty) → IsLeastMoment set more (lesser_of least (moment_of key))
  least_so_far parts more part least key one_more is some none t =
      let here = below_least (world_of set part).pending key some none t in
      let up = up_to_lesser least (moment_of key) t in
      let test : Part Q → Type 0 = λ p. NoneIsBelow (world_of set p).pending t in (
        λ all. let both = split_all test parts (part ∷ []) (subst (λ l. NonePendsBefore set l t) one_more all) in up.0 ((is t).0 both.0, here.0 both.1.0),
        λ h. let both = up.1 h in subst (λ l. NonePendsBefore set l t) (sym one_more) (all_append test parts (part ∷ []) ((is t).1 both.0) (here.1 both.1, tt)),
      )
