-- What windows sent out is new in the parts that it comes to.
use Rattle.std.proofs.Common.{◌≡◌, ◌≢◌, ◌⊎◌, ℕ, ◌<◌, ◌≤◌, Bool, true, false, not, cond, eqb, List, [], ◌∷◌, Option, Some, None, ap, ◌∙◌, sym, subst, refl, arith, inl, inr}
use Rattle.std.specs.Option.{option_map}
use Rattle.std.specs.List.{AllByRecursion}
use Rattle.std.specs.FinMap.{FinMap, get, contains_key, insert, remove}
use Rattle.std.specs.Ordering.{nat_cmp}
use Rattle.std.proofs.lemmas.Option.{same_Some}
use Rattle.std.proofs.lemmas.Bool.{eqb-true, eq-eqb}
use Rattle.base.specs.declared.key.Key.{Key}
use Rattle.base.specs.World.{Machine, World, IsPending, with_events, settled, events_of, outcome}
use Rattle.base.specs.Run.{holds-with_events, contains-remove}
use Rattle.base.specs.Rising.{IsRising, UsesNumbers}
use Rattle.base.proofs.Rising.{all_append, all_weaker, rising_append}
use Rattle.member_laws.proofs.Tables.{get_put}
use Rattle.windows.specs.Delays.{KeepsDelays}
use Rattle.windows.specs.Parts.{for_own, for_others, kept_by, PartStep, PartRun}
use Rattle.windows.proofs.Swaps.{pending_settled}
use Rattle.windows.proofs.Cuts.{events_kept, all_kept}
use Rattle.windows.proofs.Numbers.{rising_kept, rising_weaker}
use Rattle.windows.proofs.Outs.{IsFrom, from_after, handled_from}

module _ {S C R : Type 0} (delay : ℕ → ℕ → ℕ) (step : Machine S C R) (keeps : KeepsDelays delay step) (next : S → ℕ) (numbers : UsesNumbers next step) (owns : ℕ → Bool) (bound : ℕ) where
  -- an event of a member of the part, with a number that it had not used yet
  abbrev pub IsUnused : World S C → Key → Type 0
  IsUnused p e = (owns e.from ≡ true) × ((s : S) × (get p.members e.from ≡ Some s) × (next s ≤ e.number))

  abbrev AllOwn : World S C → Type 0
  AllOwn p = IsFrom delay step keeps owns bound 0 p

  made_unused : (p : World S C) (k : Key) (c : C) (o : Option S) → get p.members k.to ≡ o → owns k.to ≡ true → AllByRecursion (λ e. IsUnused p e.0) (events_of (option_map (step k c) o))
  made_unused p k c None here mine = tt
  made_unused p k c (Some s) here mine =
      all_weaker _ (λ e. IsUnused p e.0) (λ e made. (ap owns made.0 ∙ mine, (s, ap (get p.members) made.0 ∙ here, made.1))) (step k c s).events (numbers.made k c s)

  -- what a member has used it has used after the step too
  Grown : World S C → ℕ → S → Type 0
  Grown p m t = (s : S) × (get p.members m ≡ Some s) × (next s ≤ next t)

  grown_by : (p : World S C) (k : Key) (s new : S) (m : ℕ) (t : S) (b : Bool) → get p.members k.to ≡ Some s → next s ≤ next new → eqb m k.to ≡ b → cond b (Some new) (get p.members m) ≡ Some t → Grown p m t
  unfolding Grown
  grown_by p k s new m t true here more e is = (s, ap (get p.members) (eqb-true m k.to e) ∙ here, subst (λ x. next s ≤ next x) (same_Some new t is) more)
  grown_by p k s new m t false here more e is = (t, is, omega arith)

  grown_either : (p : World S C) (k : Key) (c : C) (m : ℕ) (t : S) (o : Option S) → get p.members k.to ≡ o → get (settled p k (option_map (kept_by owns) (option_map (step k c) o))).members m ≡ Some t → Grown p m t
  unfolding Grown
  grown_either p k c m t None here is = (t, is, omega arith)
  grown_either p k c m t (Some s) here is =
      grown_by p k s (step k c s).state m t (eqb m k.to) here (numbers.grows k c s) refl (sym (get_put p.members k.to m (step k c s).state) ∙ is)

  -- the numbers of the events that a step makes are below the maker's next one
  made_used : (p : World S C) (k : Key) (c : C) (o : Option S) → get p.members k.to ≡ o
      → AllByRecursion (λ e. (t : S) → get (settled p k (option_map (kept_by owns) (option_map (step k c) o))).members e.0.from ≡ Some t → e.0.number < next t) (events_of (option_map (step k c) o))
  made_used p k c None here = tt
  made_used p k c (Some s) here =
      all_weaker _ (λ e. (t : S) → get (insert p.members k.to (step k c s).state) e.0.from ≡ Some t → e.0.number < next t)
      (λ e made t is.
      let same : (step k c s).state ≡ t = same_Some (step k c s).state t (sym (get_put p.members k.to k.to (step k c s).state ∙ own_place p.members k.to (step k c s).state) ∙ ap (get (insert p.members k.to (step k c s).state)) (sym made.0) ∙ is) in
      subst (λ x. e.0.number < next x) same made.2)
      (step k c s).events (numbers.made k c s)
    where
      own_place : (members : FinMap nat_cmp S) (m : ℕ) (new : S) → cond (eqb m m) (Some new) (get members m) ≡ Some new
      own_place members m new = ap (λ b. cond b (Some new) (get members m)) (eq-eqb m m refl)

  made_apart : (k : Key) (c : C) (o : Option S) → IsRising (λ e f. e.0 ≢ f.0) (events_of (option_map (step k c) o))
  made_apart k c None = tt
  made_apart k c (Some s) =
      rising_weaker (λ e f. e.0.number < f.0.number) (λ e f. e.0 ≢ f.0) (λ e f less same. let n : e.0.number ≡ f.0.number = ap (λ (q : Key). q.number) same in omega arith) (step k c s).events (numbers.apart k c s)

  module _ (p mid : World S C) (k : Key) (out : List (Key × C)) (made : List R) (all : AllOwn p) (is : PartStep step owns bound p k out made mid) where
    abbrev es : List (Key × C)
    es = events_of (outcome step p k is.content)

    mine : owns k.to ≡ true
    mine = (handled_from delay step keeps owns bound 0 p mid k out made all is).0

    sent_unused : AllByRecursion (λ e. IsUnused p e.0) out
    sent_unused =
        subst (AllByRecursion (λ e. IsUnused p e.0)) (sym is.sent)
        (all_weaker _ (λ e. IsUnused p e.0) (λ e h. h.1) (for_others owns es)
        (all_kept (λ e. not (owns e.0.to)) (λ e. IsUnused p e.0) es (made_unused p k is.content (get p.members k.to) refl mine)))

    sent_used : AllByRecursion (λ e. (t : S) → get mid.members e.0.from ≡ Some t → e.0.number < next t) out
    sent_used =
        subst (AllByRecursion (λ e. (t : S) → get mid.members e.0.from ≡ Some t → e.0.number < next t)) (sym is.sent)
        (all_weaker _ (λ e. (t : S) → get mid.members e.0.from ≡ Some t → e.0.number < next t)
        (λ e h t there. h.1 t (ap (λ (u : World S C). get u.members e.0.from) (sym is.world) ∙ there)) (for_others owns es)
        (all_kept (λ e. not (owns e.0.to)) (λ e. (t : S) → get (settled p k (option_map (kept_by owns) (outcome step p k is.content))).members e.0.from ≡ Some t → e.0.number < next t) es
        (made_used p k is.content (get p.members k.to) refl)))

    sent_apart : IsRising (λ e f. e.0 ≢ f.0) out
    sent_apart = subst (IsRising (λ e f. e.0 ≢ f.0)) (sym is.sent) (rising_kept (λ e f. e.0 ≢ f.0) (λ e. not (owns e.0.to)) es (made_apart k is.content (get p.members k.to)))

    unused_before : (e : Key) → IsUnused mid e → IsUnused p e
    unfolding Grown
    unused_before e h =
        let grown = grown_either p k is.content e.from h.1.0 (get p.members k.to) refl (ap (λ (u : World S C). get u.members e.from) (sym is.world) ∙ h.1.1) in
        let low = h.1.2 in
        let more = grown.2 in
        (h.0, (grown.0, grown.1, omega arith))

    origin : (q : Key) → IsPending mid q → IsPending p q ⊎ (owns q.from ≡ true)
    origin q here =
        holds-with_events (λ r. IsPending p r ⊎ (owns r.from ≡ true)) (for_own owns es) (remove p.pending k) (λ r there. inl (contains-remove p.pending k r there).0)
        (all_weaker _ (λ e. IsPending p e.0 ⊎ (owns e.0.from ≡ true)) (λ e h. inr h.1.0) (for_own owns es)
        (all_kept (λ e. owns e.0.to) (λ e. IsUnused p e.0) es (made_unused p k is.content (get p.members k.to) refl mine)))
        q
        (subst (λ m. contains_key m q ≡ true)
        (ap (λ (u : World S C). u.pending) is.world ∙ pending_settled p k (option_map (kept_by owns) (outcome step p k is.content)) ∙ ap (with_events (remove p.pending k)) (events_kept owns (outcome step p k is.content)))
        here)

  pub out_unused : (ks : List Key) (p after : World S C) (out : List (Key × C)) (rows : List R) → AllOwn p → PartRun step owns bound p ks out rows after → AllByRecursion (λ e. IsUnused p e.0) out
  out_unused [] p after out rows all run = subst (AllByRecursion (λ e. IsUnused p e.0)) (sym run.1) tt
  out_unused (k ∷ ks) p after out rows all run =
      let all_mid = from_after delay step keeps owns bound 0 p run.0 k run.1 run.3 all run.5 in
      subst (AllByRecursion (λ e. IsUnused p e.0)) (sym run.7)
      (all_append _ run.1 run.2 (sent_unused p run.0 k run.1 run.3 all run.5)
      (all_weaker _ (λ e. IsUnused p e.0) (λ e h. unused_before p run.0 k run.1 run.3 all run.5 e.0 h) run.2 (out_unused ks run.0 after run.2 run.4 all_mid run.6)))

  unlike_used : (mid : World S C) (e f : Key) → ((t : S) → get mid.members e.from ≡ Some t → e.number < next t) → IsUnused mid f → e ≢ f
  unlike_used mid e f used unused same =
      let low = used unused.1.0 (ap (λ (q : Key). get mid.members q.from) same ∙ unused.1.1) in
      let high = unused.1.2 in
      let n : e.number ≡ f.number = ap (λ (q : Key). q.number) same in
      omega arith

  pub out_apart : (ks : List Key) (p after : World S C) (out : List (Key × C)) (rows : List R) → AllOwn p → PartRun step owns bound p ks out rows after → IsRising (λ e f. e.0 ≢ f.0) out
  out_apart [] p after out rows all run = subst (IsRising (λ e f. e.0 ≢ f.0)) (sym run.1) tt
  out_apart (k ∷ ks) p after out rows all run =
      let all_mid = from_after delay step keeps owns bound 0 p run.0 k run.1 run.3 all run.5 in
      subst (IsRising (λ e f. e.0 ≢ f.0)) (sym run.7)
      (rising_append (λ e f. e.0 ≢ f.0) run.1 run.2 (sent_apart p run.0 k run.1 run.3 all run.5) (out_apart ks run.0 after run.2 run.4 all_mid run.6)
      (all_weaker _ (λ e. AllByRecursion (λ f. e.0 ≢ f.0) run.2)
      (λ e used. all_weaker _ (λ f. e.0 ≢ f.0) (λ f unused. unlike_used run.0 e.0 f.0 used unused) run.2 (out_unused ks run.0 after run.2 run.4 all_mid run.6))
      run.1 (sent_used p run.0 k run.1 run.3 all run.5)))

  or_before : (p mid : World S C) (q : Key) → (IsPending mid q → IsPending p q ⊎ (owns q.from ≡ true)) → IsPending mid q ⊎ (owns q.from ≡ true) → IsPending p q ⊎ (owns q.from ≡ true)
  or_before p mid q came (inl here) = came here
  or_before p mid q came (inr own) = inr own

  -- what pends after the steps of a part pended before, or is of one of its members
  pub came_from : (ks : List Key) (p after : World S C) (out : List (Key × C)) (rows : List R) → AllOwn p → PartRun step owns bound p ks out rows after → (q : Key) → IsPending after q → IsPending p q ⊎ (owns q.from ≡ true)
  came_from [] p after out rows all run q here = inl (subst (λ u. IsPending u q) run.0 here)
  came_from (k ∷ ks) p after out rows all run q here =
      let all_mid = from_after delay step keeps owns bound 0 p run.0 k run.1 run.3 all run.5 in
      or_before p run.0 q (origin p run.0 k run.1 run.3 all run.5 q) (came_from ks run.0 after run.2 run.4 all_mid run.6 q here)
