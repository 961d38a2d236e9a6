-- The steps of a part as the steps of a machine that keeps only its own events: so it has its window, and no other.
use Rattle.std.proofs.Common.{◌≡◌, ℕ, ◌<◌, Bool, true, false, cond, List, [], ◌∷◌, ◌++◌, length, Option, Some, None, append_assoc, append-nil, ap, ◌∙◌, sym, subst, refl, arith}
use Rattle.std.specs.Option.{is_some, option_map}
use Rattle.std.specs.Ordering.{nat_cmp, eq_by_cmp}
use Rattle.std.specs.Cmp.{nat_cmp_total}
use Rattle.std.specs.FinMap.{FinMap, get, contains_key, insert, get-insert}
use Rattle.std.proofs.lemmas.Map.Lookups.{exact_unsigned}
use Rattle.std.proofs.lemmas.Map.Views.{tells_apart}
use Rattle.base.specs.declared.key.Key.{Key}
use Rattle.base.specs.World.{Machine, World, settled, rows_of, NextStep}
use Rattle.base.specs.Run.{MakesLater, handled, trace-step}
use Rattle.member_laws.proofs.Carried.{all_filter}
use Rattle.windows.specs.Parts.{PartStep, PartRun, kept_by}

there_again : {S : Type 0} (members : FinMap nat_cmp S) (m q : ℕ) (t u : S) (b : Bool) → get members m ≡ Some t → eq_by_cmp nat_cmp q m ≡ b → is_some (cond b (Some u) (get members q)) ≡ is_some (get members q)
there_again members m q t u true here e = sym (ap is_some (ap (get members) (tells_apart exact_unsigned q m e) ∙ here))
there_again members m q t u false here e = refl

-- to write a member anew leaves the numbers of members
pub same_own : {S : Type 0} (members : FinMap nat_cmp S) (m : ℕ) (t u : S) → get members m ≡ Some t → (q : ℕ) → contains_key (insert members m u) q ≡ contains_key members q
same_own members m t u here q = ap is_some (get-insert nat_cmp_total members m u q) ∙ there_again members m q t u (eq_by_cmp nat_cmp q m) here refl

-- a step leaves the numbers of members
pub members_settled : {S C R : Type 0} (step : Machine S C R) (w : World S C) (k : Key) (c : C) (o : Option S) → get w.members k.to ≡ o → (m : ℕ)
    → contains_key (settled w k (option_map (step k c) o)).members m ≡ contains_key w.members m
members_settled step w k c None none m = refl
members_settled step w k c (Some t) here m = same_own w.members k.to t (step k c t).state here m

module _ {S C R : Type 0} (step : Machine S C R) (owns : ℕ → Bool) where
  -- what a member makes of an event, less what is for others
  abbrev pub Kept : Machine S C R
  Kept k c t = kept_by owns (step k c t)

  pub kept_later : MakesLater step → MakesLater Kept
  kept_later later k c t = all_filter (λ e. k.at < e.0.at) (λ e. owns e.0.to) (step k c t).events (later k c t)

  same_outcome : (k : Key) (c : C) (o : Option S) → option_map (kept_by owns) (option_map (step k c) o) ≡ option_map (Kept k c) o
  same_outcome k c None = refl
  same_outcome k c (Some t) = refl

  same_rows : (k : Key) (c : C) (o : Option S) → rows_of (option_map (step k c) o) ≡ rows_of (option_map (Kept k c) o)
  same_rows k c None = refl
  same_rows k c (Some t) = refl

  settled_own : (p : World S C) (k : Key) (c : C) (o : Option S) → get p.members k.to ≡ o
      → (q : ℕ) → contains_key (settled p k (option_map (kept_by owns) (option_map (step k c) o))).members q ≡ contains_key p.members q
  settled_own p k c None none q = refl
  settled_own p k c (Some t) here q = same_own p.members k.to t (step k c t).state here q

  module _ (bound : ℕ) where
    -- a step leaves the numbers of the part's members, and so does a run
    pub own_step : (p v : World S C) (k : Key) (out : List (Key × C)) (rows : List R) → PartStep step owns bound p k out rows v → (q : ℕ) → contains_key v.members q ≡ contains_key p.members q
    own_step p v k out rows is q = ap (λ (w : World S C). contains_key w.members q) is.world ∙ settled_own p k is.content (get p.members k.to) refl q

    pub own_run : (ks : List Key) (p v : World S C) (out : List (Key × C)) (rows : List R) → PartRun step owns bound p ks out rows v → (q : ℕ) → contains_key v.members q ≡ contains_key p.members q
    own_run [] p v out rows run q = ap (λ (w : World S C). contains_key w.members q) run.0
    own_run (k ∷ ks) p v out rows run q = own_run ks run.0 v run.2 run.4 run.6 q ∙ own_step p run.0 k run.1 run.3 run.5 q

    -- a step of the part is a next step of that machine
    pub next_of : (p v : World S C) (k : Key) (out : List (Key × C)) (rows : List R) → PartStep step owns bound p k out rows v → NextStep Kept p k v rows
    next_of p v k out rows is = record {
      content = is.content;
      here = is.here;
      least = is.least;
      world = is.world ∙ ap (settled p k) (same_outcome k is.content (get p.members k.to));
      made = is.made ∙ same_rows k is.content (get p.members k.to);
    }

    -- a run of the part goes on by another
    pub runs_join : (ks ls : List Key) (p v u : World S C) (out sent : List (Key × C)) (rows made : List R) → PartRun step owns bound p ks out rows v → PartRun step owns bound v ls sent made u
        → PartRun step owns bound p (ks ++ ls) (out ++ sent) (rows ++ made) u
    runs_join [] ls p v u out sent rows made run next =
        let moved = subst (λ m. PartRun step owns bound m ls sent made u) run.0 next in
        subst (λ l. PartRun step owns bound p ls (l ++ sent) (rows ++ made) u) (sym run.1) (subst (λ l. PartRun step owns bound p ls sent (l ++ made) u) (sym run.2) moved)
    runs_join (k ∷ ks) ls p v u out sent rows made run next = (
      run.0,
      run.1,
      run.2 ++ sent,
      run.3,
      run.4 ++ made,
      run.5,
      runs_join ks ls run.0 v u run.2 sent run.4 made run.6 next,
      ap (λ l. l ++ sent) run.7 ∙ append_assoc run.1 run.2 sent,
      ap (λ l. l ++ made) run.8 ∙ append_assoc run.3 run.4 made,
    )

    -- a run of one step
    pub one_step_run : (p v : World S C) (out : List (Key × C)) (rows : List R) (k : Key) → PartStep step owns bound p k out rows v → PartRun step owns bound p (k ∷ []) out rows v
    one_step_run p v out rows k is = (v, out, [], rows, [], is, (refl, refl, refl), sym (append-nil out), sym (append-nil rows))

    module _ (later : MakesLater step) where
      -- how many events of the part are left to handle
      pub steps_left : World S C → ℕ
      steps_left p = length (handled Kept (kept_later later) bound p)

      -- a step leaves fewer
      pub fewer_left : (p v : World S C) (k : Key) (out : List (Key × C)) (rows : List R) → PartStep step owns bound p k out rows v → steps_left v < steps_left p
      unfolding steps_left
      fewer_left p v k out rows is =
          let early = is.early in
          let h = ap length (trace-step Kept (kept_later later) bound p v k rows (omega arith) (next_of p v k out rows is)).0 in
          omega arith
