-- A set whose events all have a number below the next one: what the tests keep of a queue.
use Rattle.std.proofs.Common.{◌≡◌, ℕ, ◌<◌, true, [], ◌∷◌, Option, Some, None, IfSome, IfNone, ap, ◌∙◌, sym, subst, arith}
use Rattle.std.specs.Option.{is_some}
use Rattle.std.specs.FinMap.{FinMap, empty, get, insert, remove, contains_key, get-empty}
use Rattle.std.proofs.lemmas.Bool.{false≢true}
use Rattle.base.specs.declared.key.Key.{Key}
use Rattle.base.specs.Order.{key_cmp}
use Rattle.base.specs.Run.{holds-with_events, contains-remove}

module _ {E : Type 0} where
  abbrev AreBelow : FinMap key_cmp E → ℕ → Type 0
  AreBelow set next = (q : Key) → contains_key set q ≡ true → q.number < next

  pub below_none : (set : FinMap key_cmp E) (next : ℕ) → set ≡ empty → AreBelow set next
  below_none set next none q here = absurd (false≢true (sym (ap (λ m. is_some (get m q)) none ∙ ap is_some (get-empty key_cmp q)) ∙ here))

  pub below_pushed : (set after : FinMap key_cmp E) (k : Key) (event : E) (next more : ℕ) → AreBelow set next → after ≡ insert set k event → k.number ≡ next → next < more → AreBelow after more
  below_pushed set after k event next more below pushed own rises q here =
      holds-with_events (λ (r : Key). r.number < more) ((k, event) ∷ []) set (λ r there. let h = below r there in omega arith) (omega arith, tt) q
      (subst (λ m. contains_key m q ≡ true) pushed here)

  pub below_popped : (key : E → Key) (set after : FinMap key_cmp E) (popped : Option E) (next : ℕ) → AreBelow set next
      → IfSome popped (λ event. after ≡ remove set (key event)) → IfNone popped (after ≡ set) → AreBelow after next
  below_popped key set after None next below taken same q here = below q (subst (λ m. contains_key m q ≡ true) same here)
  below_popped key set after (Some event) next below taken same q here = below q (contains-remove set (key event) q (subst (λ m. contains_key m q ≡ true) taken here)).0
