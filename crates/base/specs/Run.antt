-- Every world has one run up to the end, where each event made comes later than the one handled.
use Rattle.std.proofs.Common.{◌≡◌, ℕ, zero, suc, ◌+◌, ◌-◌, ◌<◌, ◌≤◌, Bool, true, false, ◌&&◌, cond, eqb, ltb, List, [], ◌∷◌, ◌++◌, Option, Some, None, length, append_assoc, append-nil, ap, ◌∙◌, sym, subst, refl, arith, T}
use Rattle.std.specs.Option.{unwrap_or, is_some, option_map}
use Rattle.std.specs.List.{AllByRecursion}
use Rattle.std.specs.Ordering.{eq_by_cmp, is_eq, is_lt}
use Rattle.std.specs.Cmp.{tied_itself}
use Rattle.std.specs.FinMap.{FinMap, get, contains_key, insert, remove, retain_keys, entries, len, get-entries, get-insert, get-remove, get-retain_keys, len-remove, len-entries, same_map, entries_sorted, find, is_sorted}
use Rattle.std.proofs.lemmas.Bool.{false≢true, eqb-true, ltb-true, ltb-false, eq-eqb}
use Rattle.std.specs.declared.cmp.Ordering.{Ordering}
use Rattle.std.specs.declared.cmp.Ordering.TheVariants.{Less, Equal, Greater}
use Rattle.base.specs.declared.key.Key.{Key}
use Rattle.base.specs.Order.{key_cmp, IsBefore, key_total, key_exact, moments-from_not_before, same_key}
use Rattle.base.specs.World.{Machine, World, IsPending, with_events, settled, rows_of, outcome, NextStep, Run, IsOver, SequentialRun}

-- what the run asks of a machine: each event that it makes comes later than the one handled
abbrev pub MakesLater : {S C R : Type 0} → Machine S C R → Type 0
MakesLater {S} {C} step = (k : Key) (c : C) (s : S) → AllByRecursion (λ e. k.at < e.0.at) (step k c s).events

-- ---- pending events

-- keys that compare alike are one
pub tells : (a b : Key) → eq_by_cmp key_cmp a b ≡ true → a ≡ b
tells a b e = key_exact a b (equal (key_cmp a b) e)
  where
    equal : (o : Ordering) → is_eq o ≡ true → o ≡ Equal
    equal Less e = absurd (false≢true e)
    equal Equal e = refl
    equal Greater e = absurd (false≢true e)

later_differs : (a t : ℕ) → t < a → (b : Bool) → eqb a t ≡ b → b ≡ false
later_differs a t h true e = let same : a ≡ t = eqb-true a t e in absurd (omega arith)
later_differs a t h false e = refl

module _ {C : Type 0} where
  cases_insert : (pending : FinMap key_cmp C) (k : Key) (c : C) (P : Key → Type 0) (q : Key) (b : Bool) → eq_by_cmp key_cmp q k ≡ b
      → P k → (contains_key pending q ≡ true → P q) → is_some (cond b (Some c) (get pending q)) ≡ true → P q
  cases_insert pending k c P q true e made old here = subst P (sym (tells q k e)) made
  cases_insert pending k c P q false e made old here = old here

  -- what holds of the pending keys and of those made holds of all together
  pub holds-with_events : (P : Key → Type 0) (es : List (Key × C)) (pending : FinMap key_cmp C)
      → ((q : Key) → contains_key pending q ≡ true → P q) → AllByRecursion (λ e. P e.0) es
      → (q : Key) → contains_key (with_events pending es) q ≡ true → P q
  holds-with_events P [] pending old made q here = old q here
  holds-with_events P (e ∷ es) pending old made q here =
      holds-with_events P es (insert pending e.0 e.1)
      (λ r there. cases_insert pending e.0 e.1 P r (eq_by_cmp key_cmp r e.0) refl made.0 (old r) (subst (λ o. is_some o ≡ true) (get-insert key_total pending e.0 e.1 r) there))
      made.1 q here

  cases_remove : (pending : FinMap key_cmp C) (k q : Key) (b : Bool) → eq_by_cmp key_cmp q k ≡ b
      → is_some (cond b None (get pending q)) ≡ true → (contains_key pending q ≡ true) × ¬ (q ≡ k)
  cases_remove pending k q true e here = absurd (false≢true here)
  cases_remove pending k q false e here = (here, λ same. absurd (false≢true (sym e ∙ ap is_eq (ap (λ r. key_cmp r k) same ∙ tied_itself key_total k))))

  pub contains-remove : (pending : FinMap key_cmp C) (k q : Key) → contains_key (remove pending k) q ≡ true → (contains_key pending q ≡ true) × ¬ (q ≡ k)
  contains-remove pending k q here =
      cases_remove pending k q (eq_by_cmp key_cmp q k) refl (subst (λ o. is_some o ≡ true) (get-remove key_total pending k q) here)

  -- the pending events of one moment
  at_moment : ℕ → FinMap key_cmp C → FinMap key_cmp C
  at_moment t pending = retain_keys pending (λ k. eqb k.at t)

  get-at_moment : (t : ℕ) (pending : FinMap key_cmp C) (q : Key) → get (at_moment t pending) q ≡ cond (eqb q.at t) (get pending q) None
  unfolding at_moment
  get-at_moment t pending q = get-retain_keys pending (λ k. eqb k.at t) q (λ x tied. ap (λ (k : Key). eqb k.at t) (sym (key_exact q x tied)))

  other_moment : (a t : ℕ) (pending : FinMap key_cmp C) (k q : Key) (c : C) (b : Bool) → eq_by_cmp key_cmp q k ≡ b → k.at ≡ a → eqb a t ≡ false
      → cond (eqb q.at t) (cond b (Some c) (get pending q)) None ≡ cond (eqb q.at t) (get pending q) None
  other_moment a t pending k q c true e at other =
      let none : eqb q.at t ≡ false = ap (λ (r : Key). eqb r.at t) (tells q k e) ∙ ap (λ n. eqb n t) at ∙ other in
      ap (λ b. cond b (Some c) None) none ∙ sym (ap (λ b. cond b (get pending q) None) none)
  other_moment a t pending k q c false e at other = refl

  at_moment-insert : (t : ℕ) (pending : FinMap key_cmp C) (k : Key) (c : C) → eqb k.at t ≡ false → at_moment t (insert pending k c) ≡ at_moment t pending
  at_moment-insert t pending k c other =
      same_map key_total key_exact _ _ (λ q.
      get-at_moment t (insert pending k c) q ∙ ap (λ o. cond (eqb q.at t) o None) (get-insert key_total pending k c q)
      ∙ other_moment k.at t pending k q c (eq_by_cmp key_cmp q k) refl refl other ∙ sym (get-at_moment t pending q))

  moved : (a b : Bool) (o : Option C) → cond a (cond b None o) None ≡ cond b None (cond a o None)
  moved true b o = refl
  moved false true o = refl
  moved false false o = refl

  at_moment-remove : (t : ℕ) (pending : FinMap key_cmp C) (k : Key) → at_moment t (remove pending k) ≡ remove (at_moment t pending) k
  at_moment-remove t pending k =
      same_map key_total key_exact _ _ (λ q.
      get-at_moment t (remove pending k) q ∙ ap (λ o. cond (eqb q.at t) o None) (get-remove key_total pending k q)
      ∙ moved (eqb q.at t) (eq_by_cmp key_cmp q k) (get pending q)
      ∙ sym (get-remove key_total (at_moment t pending) k q ∙ ap (cond (eq_by_cmp key_cmp q k) None) (get-at_moment t pending q)))

  at_moment-with_events : (t : ℕ) (es : List (Key × C)) (pending : FinMap key_cmp C) → AllByRecursion (λ e. t < e.0.at) es → at_moment t (with_events pending es) ≡ at_moment t pending
  at_moment-with_events t [] pending later = refl
  at_moment-with_events t (e ∷ es) pending later =
      at_moment-with_events t es (insert pending e.0 e.1) later.1 ∙ at_moment-insert t pending e.0 e.1 (later_differs e.0.at t later.0 (eqb e.0.at t) refl)

both_first : (a b : Bool) → T (a && b) → T a
both_first true b h = tt
both_first false b h = absurd h

both_second : (a b : Bool) → T (a && b) → T b
both_second true b h = h
both_second false b h = absurd h

less : (o : Ordering) → T (is_lt o) → o ≡ Less
less Less h = refl
less Equal h = absurd h
less Greater h = absurd h

no_length : {A : Type 0} (xs : List A) → length xs ≡ 0 → xs ≡ []
no_length [] e = refl
no_length (x ∷ xs) e = absurd (omega arith)

module _ {C : Type 0} where
  -- a key before the first of a list in order is not in it
  not_before_first : (q : Key) (e : Key × C) (es : List (Key × C)) → IsBefore q e.0 → T (is_sorted key_cmp (e ∷ es)) → find key_cmp q (e ∷ es) ≡ None
  not_before_first q e [] h sorted = ap (λ o. cond (is_eq o) (Some e.1) None) h
  not_before_first q e (f ∷ fs) h sorted =
      ap (λ o. cond (is_eq o) (Some e.1) (find key_cmp q (f ∷ fs))) h
      ∙ not_before_first q f fs (key_total.trans q e.0 f.0 h (less (key_cmp e.0 f.0) (both_first _ _ (both_first _ _ sorted)))) (both_second _ _ sorted)

  -- the first of the entries is pending, and no key that is pending is before it
  pub record IsFirst (pending : FinMap key_cmp C) (k : Key) (c : C) : Type 0 where
    pub here : get pending k ≡ Some c
    pub least : (q : Key) → contains_key pending q ≡ true → ¬ (IsBefore q k)

  pub first-from_entries : (pending : FinMap key_cmp C) (e : Key × C) (es : List (Key × C)) → entries pending ≡ e ∷ es → IsFirst pending e.0 e.1
  first-from_entries pending e es is = record {
    here = get-entries pending e.0 ∙ ap (find key_cmp e.0) is ∙ ap (λ o. cond (is_eq o) (Some e.1) (find key_cmp e.0 es)) (tied_itself key_total e.0);
    least = λ q here before.
        let none : get pending q ≡ None = get-entries pending q ∙ ap (find key_cmp q) is ∙ not_before_first q e es before (subst (λ l. T (is_sorted key_cmp l)) is (entries_sorted pending)) in
        false≢true (sym (ap is_some none) ∙ here);
  }

  none-from_entries : (pending : FinMap key_cmp C) → entries pending ≡ [] → (q : Key) → ¬ (contains_key pending q ≡ true)
  none-from_entries pending is q here = false≢true (sym (ap is_some (get-entries pending q ∙ ap (find key_cmp q) is)) ∙ here)

  len-present : (pending : FinMap key_cmp C) (k : Key) (n : ℕ) → len pending ≡ n → contains_key pending k ≡ true → 0 < n
  len-present pending k zero e here =
      let none : entries pending ≡ [] = no_length (entries pending) (sym (len-entries pending) ∙ e) in
      absurd (none-from_entries pending none k here)
  len-present pending k (suc n) e here = omega arith

all_later : {C : Type 0} (t : ℕ) (P : Key → Type 0) → ((q : Key) → t < q.at → P q) → (es : List (Key × C)) → AllByRecursion (λ e. t < e.0.at) es → AllByRecursion (λ e. P e.0) es
all_later t P holds [] later = tt
all_later t P holds (e ∷ es) later = (holds e.0 later.0, all_later t P holds es later.1)

module _ {S C R : Type 0} (step : Machine S C R) (later : MakesLater step) (end : ℕ) where
  holds_settled : (P : Key → Type 0) (w : World S C) (k : Key) (c : C) → ((q : Key) → IsPending w q → ¬ (q ≡ k) → P q) → ((q : Key) → k.at < q.at → P q)
      → (o : Option S) (q : Key) → IsPending (settled w k (option_map (step k c) o)) q → P q
  holds_settled P w k c old new None q here = let kept = contains-remove w.pending k q here in old q kept.0 kept.1
  holds_settled P w k c old new (Some s) q here =
      holds-with_events P (step k c s).events (remove w.pending k)
      (λ r there. let kept = contains-remove w.pending k r there in old r kept.0 kept.1)
      (all_later k.at P new (step k c s).events (later k c s)) q here

  -- what holds of the other pending keys and of later ones holds of all that pend after the step
  pub holds-settled : (P : Key → Type 0) (w : World S C) (k : Key) (c : C) → ((q : Key) → IsPending w q → ¬ (q ≡ k) → P q) → ((q : Key) → k.at < q.at → P q)
      → (q : Key) → IsPending (settled w k (outcome step w k c)) q → P q
  holds-settled P w k c old new = holds_settled P w k c old new (get w.members k.to)

  moment_settled : (w : World S C) (k : Key) (c : C) (o : Option S) → at_moment k.at (settled w k (option_map (step k c) o)).pending ≡ remove (at_moment k.at w.pending) k
  moment_settled w k c None = at_moment-remove k.at w.pending k
  moment_settled w k c (Some s) = at_moment-with_events k.at (step k c s).events (remove w.pending k) (later k c s) ∙ at_moment-remove k.at w.pending k

  -- a step takes one event from its moment, and makes none there
  fewer : (w : World S C) (k : Key) (c : C) → get w.pending k ≡ Some c
      → len (at_moment k.at (settled w k (outcome step w k c)).pending) + 1 ≡ len (at_moment k.at w.pending)
  fewer w k c here =
      let there : contains_key (at_moment k.at w.pending) k ≡ true =
      ap is_some (get-at_moment k.at w.pending k ∙ ap (λ b. cond b (get w.pending k) None) (eq-eqb k.at k.at refl) ∙ here) in
      let some : 0 < len (at_moment k.at w.pending) = len-present (at_moment k.at w.pending) k _ refl there in
      let one : len (at_moment k.at (settled w k (outcome step w k c)).pending) ≡ len (at_moment k.at w.pending) - 1 =
      ap len (moment_settled w k c (get w.members k.to)) ∙ len-remove key_total (at_moment k.at w.pending) k ∙ ap (λ b. cond b (len (at_moment k.at w.pending) - 1) (len (at_moment k.at w.pending))) there in
      omega arith

  abbrev Whole : World S C → Type 0
  Whole w = (keys : List Key) × (rows : List R) × SequentialRun step end w keys rows

  over_whole : (w : World S C) → IsOver end w → Whole w
  over_whole w over = ([], [], record { last = w; run = (refl, refl); over = over })

  then_whole : (w v : World S C) (k : Key) (made : List R) → k.at ≤ end → NextStep step w k v made → Whole v → Whole w
  then_whole w v k made in_time next x = (k ∷ x.0, made ++ x.1, record { last = x.2.last; run = (v, made, x.1, in_time, next, x.2.run, refl); over = x.2.over })

  -- the first pending event's step
  pub step_of_first : (w : World S C) (k : Key) (c : C) → IsFirst w.pending k c → NextStep step w k (settled w k (outcome step w k c)) (rows_of (outcome step w k c))
  step_of_first w k c is = record { content = c; here = is.here; least = is.least; world = refl; made = refl }

  abbrev From : ℕ → World S C → Type 0
  From t w = (q : Key) → IsPending w q → t ≤ q.at

  module _ (w : World S C) (t : ℕ) (from : From t w) (rest : From (t + 1) w → Whole w) (now : (k : Key) (c : C) → IsFirst w.pending k c → k.at ≡ t → k.at ≤ end → Whole w) where
    by_moment : (k : Key) (c : C) → IsFirst w.pending k c → (a b : Bool) → eqb k.at t ≡ a → ltb end k.at ≡ b → Whole w
    by_moment k c is true true same past =
        over_whole w (λ q here. let least = moments-from_not_before q k (is.least q here) in let h = ltb-true end k.at past in omega arith)
    by_moment k c is true false same past = now k c is (eqb-true k.at t same) (ltb-false end k.at past)
    by_moment k c is false b same past =
        rest (λ q here.
        let least = moments-from_not_before q k (is.least q here) in
        let begun = from k (ap is_some is.here) in
        let other : ¬ (k.at ≡ t) = λ e. false≢true (sym same ∙ eq-eqb k.at t e) in
        omega arith)

    by_entries : (es : List (Key × C)) → entries w.pending ≡ es → Whole w
    by_entries [] is = over_whole w (λ q here. absurd (none-from_entries w.pending is q here))
    by_entries (e ∷ es) is = by_moment e.0 e.1 (first-from_entries w.pending e es is) (eqb e.0.at t) (ltb end e.0.at) refl refl

    choose : Whole w
    choose = by_entries (entries w.pending) refl

  none_at_once : (t : ℕ) (w : World S C) (k : Key) (c : C) → len (at_moment t w.pending) ≤ 0 → get w.pending k ≡ Some c → k.at ≡ t → ⊥
  none_at_once t w k c few here same =
      let h = fewer w k c here in
      let e : len (at_moment k.at w.pending) ≡ len (at_moment t w.pending) = ap (λ m. len (at_moment m w.pending)) same in
      omega arith

  within_moment : (d t : ℕ) → ((u : ℕ) (w : World S C) → end < u + d → From u w → Whole w) → end < t + suc d
      → (n : ℕ) (w : World S C) → From t w → len (at_moment t w.pending) ≤ n → Whole w
  within_moment d t rest reach zero w from few =
      choose w t from (rest (t + 1) w (omega arith)) (λ k c is same in_time. absurd (none_at_once t w k c few is.here same))
  within_moment d t rest reach (suc n) w from few =
      choose w t from (rest (t + 1) w (omega arith)) (λ k c is same in_time.
      let v : World S C = settled w k (outcome step w k c) in
      let from_v : From t v = holds-settled (λ q. t ≤ q.at) w k c (λ q here _. from q here) (λ q h. omega arith) in
      let h = fewer w k c is.here in
      let e : len (at_moment k.at w.pending) ≡ len (at_moment t w.pending) = ap (λ m. len (at_moment m w.pending)) same in
      let f : len (at_moment k.at v.pending) ≡ len (at_moment t v.pending) = ap (λ m. len (at_moment m v.pending)) same in
      then_whole w v k (rows_of (outcome step w k c)) in_time (step_of_first w k c is) (within_moment d t rest reach n v from_v (omega arith)))

  within : (d t : ℕ) (w : World S C) → end < t + d → From t w → Whole w
  within zero t w reach from = over_whole w (λ q here. let h = from q here in omega arith)
  within (suc d) t w reach from = within_moment d t (within d) reach (len (at_moment t w.pending)) w from (omega arith)

  -- by the moments that are left and the events that pend at the present one
  whole : (w : World S C) → Whole w
  whole w = within (end + 1) 0 w (omega arith) (λ q here. omega arith)

  -- the rows of the run up to the end, and the keys of the events that it handles
  pub trace : World S C → List R
  trace w = (whole w).1

  pub handled : World S C → List Key
  handled w = (whole w).0

  -- every world has a run
  pub run-exists : (w : World S C) → SequentialRun step end w (handled w) (trace w)
  unfolding trace handled
  run-exists w = (whole w).2

  same_content : (w : World S C) (k l : Key) (c d : C) → k ≡ l → get w.pending k ≡ Some c → get w.pending l ≡ Some d → c ≡ d
  same_content w k l c d e here there = ap (λ o. unwrap_or o c) (sym here ∙ ap (get w.pending) e ∙ there)

  -- the next step is one
  pub one_step : (w u v : World S C) (k l : Key) (made found : List R) → NextStep step w k u made → NextStep step w l v found → (k ≡ l) × (u ≡ v) × (made ≡ found)
  one_step w u v k l made found a b =
      let key : k ≡ l = same_key k l (b.least k (ap is_some a.here)) (a.least l (ap is_some b.here)) in
      let content : a.content ≡ b.content = same_content w k l a.content b.content key a.here b.here in
      let out : outcome step w k a.content ≡ outcome step w l b.content = λ i. outcome step w (key i) (content i) in
      (key, a.world ∙ (λ i. settled w (key i) (out i)) ∙ sym b.world, a.made ∙ ap rows_of out ∙ sym b.made)

  over_or_step : (w u v : World S C) (k : Key) (made : List R) → v ≡ w → IsOver end v → k.at ≤ end → NextStep step w k u made → ⊥
  over_or_step w u v k made same over in_time next =
      let past : end < k.at = subst (IsOver end) same over k (ap is_some next.here) in
      omega arith

  -- the run is one
  pub one_run : (ks ls : List Key) (w u v : World S C) (rows found : List R) → Run step end w ks rows u → IsOver end u → Run step end w ls found v → IsOver end v
      → (ks ≡ ls) × (rows ≡ found)
  one_run [] [] w u v rows found a _ b _ = (refl, a.1 ∙ sym b.1)
  one_run [] (l ∷ ls) w u v rows found a over b _ = absurd (over_or_step w b.0 u l b.1 a.0 over b.3 b.4)
  one_run (k ∷ ks) [] w u v rows found a _ b over = absurd (over_or_step w a.0 v k a.1 b.0 over a.3 a.4)
  one_run (k ∷ ks) (l ∷ ls) w u v rows found a over b ends =
      let step_same = one_step w a.0 b.0 k l a.1 b.1 a.4 b.4 in
      let rest = one_run ks ls a.0 u v a.2 b.2 a.5 over (subst (λ m. Run step end m ls b.2 v) (sym step_same.1) b.5) ends in
      ((λ i. step_same.0 i ∷ rest.0 i), a.6 ∙ (λ i. step_same.2 i ++ rest.1 i) ∙ sym b.6)

  -- what any run to its end writes is the trace
  pub trace-run : (ks : List Key) (w v : World S C) (rows : List R) → Run step end w ks rows v → IsOver end v → (handled w ≡ ks) × (trace w ≡ rows)
  trace-run ks w v rows run over = let is = run-exists w in one_run (handled w) ks w is.last v (trace w) rows is.run is.over run over

  pub trace-over : (w : World S C) → IsOver end w → (handled w ≡ []) × (trace w ≡ [])
  trace-over w over = trace-run [] w w [] (refl, refl) over

  pub trace-step : (w v : World S C) (k : Key) (made : List R) → k.at ≤ end → NextStep step w k v made → (handled w ≡ k ∷ handled v) × (trace w ≡ made ++ trace v)
  trace-step w v k made in_time next = let is = run-exists v in trace-run (k ∷ handled v) w is.last (made ++ trace v) (v, made, trace v, in_time, next, is.run, refl) is.over

  -- a run goes on by one step
  pub run_more : (ks : List Key) (w v u : World S C) (rows made : List R) (k : Key) → Run step end w ks rows v → k.at ≤ end → NextStep step v k u made
      → Run step end w (ks ++ k ∷ []) (rows ++ made) u
  run_more [] w v u rows made k run in_time next =
      (u, made, [], in_time, subst (λ m. NextStep step m k u made) run.0 next, (refl, refl), ap (λ l. l ++ made) run.1 ∙ sym (append-nil made))
  run_more (l ∷ ls) w v u rows made k run in_time next =
      (run.0, run.1, run.2 ++ made, run.3, run.4, run_more ls run.0 v u run.2 made k run.5 in_time next, ap (λ l. l ++ made) run.6 ∙ append_assoc run.1 run.2 made)
