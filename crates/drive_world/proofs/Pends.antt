-- Events that pend, by a tree.
use Rattle.std.proofs.Common.{◌≡◌, ℕ, ◌≤◌, ◌<◌, List, false, true, ◌∷◌, map, Some, ap, ◌∙◌, sym, arith}
use Rattle.std.specs.Option.{is_some, IsSome}
use Rattle.std.specs.Ordering.{is_gt, is_le, nat_cmp, MatchOrdering}
use Rattle.std.specs.Cmp.{ranks}
use Rattle.std.specs.FinMap.{FinMap, from_entries, insert}
use Rattle.std.proofs.lemmas.Bool.{false≢true}
use Rattle.std.specs.declared.cmp.Ordering.{Ordering}
use Rattle.std.specs.declared.cmp.Ordering.TheVariants.{Less, Equal, Greater}
use Rattle.base.specs.declared.key.Key.{Key}
use Rattle.base.specs.Order.{key_cmp, key_total}
use Rattle.base.specs.World.{with_events}
use Rattle.base.proofs.Trees.{found, get-entries, none_before}
use Rattle.drive_events.specs.declared.content.Content.{Content}
use Rattle.drive_process.specs.declared.effects.ProcessEvent.{ProcessEvent}
use Rattle.drive_process.specs.ProcessOf.{pair_of}
use Rattle.worker_queue.specs.Queue.{IsLeastKey}

pub least_of : (es : List (Key × Content)) (k : Key) (content : Content) → found key_cmp es k ≡ Some content → ((q : Key) → IsSome (found key_cmp es q) → is_gt (key_cmp k q) ≡ false) → IsLeastKey (from_entries es) k
least_of es k content here least = record { here = ap is_some (get-entries key_total es k ∙ here); least = none_before key_total es k least }

-- one event more of a list
pub one_pushed : (old now after : FinMap key_cmp Content) (all items rest : List ProcessEvent) (e : ProcessEvent) → with_events old (map pair_of all) ≡ with_events now (map pair_of items) → items ≡ e ∷ rest
    → after ≡ insert now e.key e.content → with_events old (map pair_of all) ≡ with_events after (map pair_of rest)
one_pushed old now after all items rest e same left made =
    same ∙ ap (λ l. with_events now (map pair_of l)) left ∙ ap (λ m. with_events m (map pair_of rest)) (sym made)

at_most : (a b : ℕ) (o : Ordering) → MatchOrdering o (a < b) (a ≡ b) (b < a) → true ≡ is_le o → a ≤ b
at_most a b Less h e = omega arith
at_most a b Equal h e = omega arith
at_most a b Greater h e = absurd (false≢true (sym e))

above : (a b : ℕ) (o : Ordering) → MatchOrdering o (a < b) (a ≡ b) (b < a) → false ≡ is_le o → b < a
above a b Less h e = absurd (false≢true e)
above a b Equal h e = absurd (false≢true e)
above a b Greater h e = h

-- what a comparison of moments says
pub at_most_by_cmp : (a b : ℕ) → true ≡ is_le (nat_cmp a b) → a ≤ b
at_most_by_cmp a b = at_most a b (nat_cmp a b) (ranks a b)

pub above_by_cmp : (a b : ℕ) → false ≡ is_le (nat_cmp a b) → b < a
above_by_cmp a b = above a b (nat_cmp a b) (ranks a b)
