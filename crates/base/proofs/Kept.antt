-- What each step keeps of the events that pend, and gives its rows, a whole run keeps and gives.
use Rattle.std.proofs.Common.{◌≡◌, ℕ, Bool, true, false, cond, List, [], ◌∷◌, Option, Some, None, ap, ◌∙◌, sym, subst, refl}
use Rattle.std.proofs.lemmas.Option.{same_Some}
use Rattle.std.specs.Option.{is_some, option_map}
use Rattle.std.specs.List.{AllByRecursion}
use Rattle.std.specs.Ordering.{eq_by_cmp}
use Rattle.std.specs.FinMap.{FinMap, get, insert, remove, get-insert, get-remove}
use Rattle.std.proofs.lemmas.Bool.{false≢true}
use Rattle.base.specs.declared.key.Key.{Key}
use Rattle.base.specs.Order.{key_cmp, key_total}
use Rattle.base.specs.World.{Machine, World, with_events, settled, rows_of, NextStep, Run}
use Rattle.base.specs.Run.{tells}
use Rattle.base.proofs.Rising.{all_append}

module _ {C : Type 0} (P : Key → C → Type 0) where
  -- the fact holds of each event
  abbrev pub HoldsOfAll : FinMap key_cmp C → Type 0
  HoldsOfAll pending = (k : Key) (c : C) → get pending k ≡ Some c → P k c

  of_inserted : (pending : FinMap key_cmp C) (k : Key) (c : C) (q : Key) (d : C) (b : Bool) → eq_by_cmp key_cmp q k ≡ b → P k c → HoldsOfAll pending
      → cond b (Some c) (get pending q) ≡ Some d → P q d
  of_inserted pending k c q d true e made old here = subst (λ r. P r d) (sym (tells q k e)) (subst (P k) (same_Some c d here) made)
  of_inserted pending k c q d false e made old here = old q d here

  pub all_with_events : (es : List (Key × C)) (pending : FinMap key_cmp C) → HoldsOfAll pending → AllByRecursion (λ e. P e.0 e.1) es → HoldsOfAll (with_events pending es)
  all_with_events [] pending old made = old
  all_with_events (e ∷ es) pending old made =
      all_with_events es (insert pending e.0 e.1)
      (λ q d here. of_inserted pending e.0 e.1 q d (eq_by_cmp key_cmp q e.0) refl made.0 old (sym (get-insert key_total pending e.0 e.1 q) ∙ here)) made.1

  of_left : (pending : FinMap key_cmp C) (q : Key) (d : C) (b : Bool) → HoldsOfAll pending → cond b None (get pending q) ≡ Some d → P q d
  of_left pending q d true old here = absurd (false≢true (ap is_some here))
  of_left pending q d false old here = old q d here

  all_remove : (pending : FinMap key_cmp C) (k : Key) → HoldsOfAll pending → HoldsOfAll (remove pending k)
  all_remove pending k old q d here = of_left pending q d (eq_by_cmp key_cmp q k) old (sym (get-remove key_total pending k q) ∙ here)

  module _ {S R : Type 0} (step : Machine S C R) (Q : R → Type 0)
      (keeps : (k : Key) (c : C) (s : S) → P k c → AllByRecursion (λ e. P e.0 e.1) (step k c s).events × AllByRecursion Q (step k c s).rows) where
    settled_keeps : (w : World S C) (k : Key) (c : C) (o : Option S) → HoldsOfAll w.pending → P k c
        → HoldsOfAll (settled w k (option_map (step k c) o)).pending × AllByRecursion Q (rows_of (option_map (step k c) o))
    settled_keeps w k c None all here = (all_remove w.pending k all, tt)
    settled_keeps w k c (Some s) all here =
        let made = keeps k c s here in
        (all_with_events (step k c s).events (remove w.pending k) (all_remove w.pending k all) made.0, made.1)

    step_keeps : (w v : World S C) (k : Key) (made : List R) → HoldsOfAll w.pending → NextStep step w k v made → HoldsOfAll v.pending × AllByRecursion Q made
    step_keeps w v k made all next =
        let is = settled_keeps w k next.content (get w.members k.to) all (all k next.content next.here) in
        (subst (λ u. HoldsOfAll u.pending) (sym next.world) is.0, subst (AllByRecursion Q) (sym next.made) is.1)

    pub run_keeps : (end : ℕ) (ks : List Key) (w v : World S C) (rows : List R) → HoldsOfAll w.pending → Run step end w ks rows v → HoldsOfAll v.pending × AllByRecursion Q rows
    run_keeps end [] w v rows all run = (subst (λ u. HoldsOfAll u.pending) (sym run.0) all, subst (AllByRecursion Q) (sym run.1) tt)
    run_keeps end (k ∷ ks) w v rows all run =
        let first = step_keeps w run.0 k run.1 all run.4 in
        let rest = run_keeps end ks run.0 v run.2 first.0 run.5 in
        (rest.0, subst (AllByRecursion Q) (sym run.6) (all_append Q run.1 run.2 first.1 rest.1))
