-- The windows of all parts of a division.
use Rattle.std.proofs.Common.{◌≡◌, ◌≢◌, ◌⊎◌, ℕ, ◌<◌, ◌≤◌, Bool, true, false, eqb, cond, List, [], ◌∷◌, ◌++◌, None, ap, inl, inr, ◌∙◌, sym, subst, refl, append_assoc}
use Rattle.std.specs.Option.{is_some}
use Rattle.std.specs.Cmp.{nat_cmp_total}
use Rattle.std.specs.FinMap.{get, contains_key, same_map, nat_cmp-IsAntisymmetric}
use Rattle.std.specs.List.{AllByRecursion}
use Rattle.std.proofs.lemmas.Bool.{eqb-true, ne_eqb, eq-eqb}
use Rattle.std.proofs.lemmas.Bool.Decides.{eqb_tells}
use Rattle.std.proofs.lemmas.List.Elements.{filter-append}
use Rattle.base.specs.declared.key.Key.{Key}
use Rattle.base.specs.Order.{key_total, key_exact}
use Rattle.base.specs.World.{Machine, World, IsPending}
use Rattle.base.specs.Run.{holds-with_events}
use Rattle.base.specs.Rising.{IsRising}
use Rattle.base.proofs.Rising.{all_append, all_weaker}
use Rattle.windows.specs.Delays.{SendsAsItself}
use Rattle.windows.specs.Schedule.{Schedule}
use Rattle.windows.specs.Parts.{part_of, for_own, with_arrivals, is_in, Window, IsWindowOfItsPart, PartRun, IncludesPart, all_keys, all_out, all_rows, AreWindowsOfDifferentParts, StandsAfter, OffersWindows}
use Rattle.windows.proofs.Cuts.{get_retained, joined_joined, all_kept, own_of_others}
use Rattle.windows.proofs.Windows.{Led, leads}

schedule_append : {S C R : Type 0} (step : Machine S C R) (Test : World S C → Key → Type 0) (ks ls : List Key) (w u v : World S C) (rows more : List R)
    → Schedule step Test w ks rows u → Schedule step Test u ls more v → Schedule step Test w (ks ++ ls) (rows ++ more) v
schedule_append step Test [] ls w u v rows more first rest =
    subst (λ l. Schedule step Test w ls (l ++ more) v) (sym first.1) (subst (λ x. Schedule step Test x ls more v) first.0 rest)
schedule_append step Test (k ∷ ks) ls w u v rows more first rest = (
  first.0,
  first.1,
  first.2 ++ more,
  first.3,
  schedule_append step Test ks ls first.0 u v first.2 more first.4 rest,
  ap (λ l. l ++ more) first.5 ∙ append_assoc first.1 first.2 more,
)

-- members of one part are not of another
parts_apart : (division : ℕ → ℕ) (i j : ℕ) → i ≢ j → (m : ℕ) → is_in division i m ≡ true → is_in division j m ≡ false
parts_apart division i j other m here = ne_eqb (division m) j (λ same. other (sym (eqb-true (division m) i here) ∙ same))

own_append : {C : Type 0} (owns : ℕ → Bool) (es fs : List (Key × C)) → for_own owns (es ++ fs) ≡ for_own owns es ++ for_own owns fs
own_append owns es fs = filter-append (λ e. owns e.0.to) es fs

-- none of what a window sent out is for its own part
pub own_of_run : {S C R : Type 0} (step : Machine S C R) (owns : ℕ → Bool) (bound : ℕ) (ks : List Key) (p v : World S C) (out : List (Key × C)) (rows : List R) → PartRun step owns bound p ks out rows v → for_own owns out ≡ []
own_of_run step owns bound [] p v out rows run = ap (for_own owns) run.1
own_of_run step owns bound (k ∷ ks) p v out rows run =
    ap (for_own owns) run.7 ∙ own_append owns run.1 run.2
    ∙ ap (λ l. l ++ for_own owns run.2) (ap (for_own owns) run.5.sent ∙ own_of_others owns _) ∙ own_of_run step owns bound ks run.0 v run.2 run.4 run.6

module _ {S C R : Type 0} (step : Machine S C R) (own : SendsAsItself step) (division bounds : ℕ → ℕ) (Test : World S C → Key → Type 0) (Ready : World S C → Type 0)
    (offers : OffersWindows division bounds Test Ready step) (w : World S C) where
  abbrev owns : Window S C R → ℕ → Bool
  owns d = is_in division d.part

  -- a part whose window is still to come has only had events come to it, from other parts
  record Awaits (u : World S C) (outs : List (Key × C)) (d : Window S C R) : Type 0 where
    cut : part_of (owns d) u ≡ with_arrivals (part_of (owns d) w) (for_own (owns d) outs)
    strange : AllByRecursion (λ e. owns d e.0.from ≡ false) outs
    window : IsWindowOfItsPart step division bounds w d

  record AllLed (u : World S C) (outs : List (Key × C)) (ds : List (Window S C R)) : Type 0 where
    world : World S C
    schedule : Schedule step Test u (all_keys ds) (all_rows ds) world
    ready : Ready world
    far : AllByRecursion (λ e. bounds (division e.0.to) ≤ e.0.at) (all_out ds)
    parts : AllByRecursion (λ d. part_of (owns d) world ≡ with_arrivals d.after (for_own (owns d) (outs ++ all_out ds))) ds
    others : (part : ℕ) → AllByRecursion (λ d. d.part ≢ part) ds → part_of (is_in division part) world ≡ with_arrivals (part_of (is_in division part) u) (for_own (is_in division part) (all_out ds))

  late_own : (part : ℕ) (outs : List (Key × C)) → AllByRecursion (λ e. bounds (division e.0.to) ≤ e.0.at) outs → AllByRecursion (λ e. bounds part ≤ e.0.at) (for_own (is_in division part) outs)
  late_own part outs late =
      all_weaker _ (λ e. bounds part ≤ e.0.at) (λ e h. subst (λ n. bounds n ≤ e.0.at) (eqb-true (division e.0.to) part h.0) h.1)
      (for_own (is_in division part) outs) (all_kept (λ e. is_in division part e.0.to) (λ e. bounds (division e.0.to) ≤ e.0.at) outs late)

  strange_own : (mine : ℕ → Bool) (outs : List (Key × C)) → AllByRecursion (λ e. mine e.0.from ≡ false) outs → AllByRecursion (λ e. mine e.0.from ≡ false) (for_own mine outs)
  strange_own mine outs strange = all_weaker _ (λ e. mine e.0.from ≡ false) (λ e h. h.1) (for_own mine outs) (all_kept (λ e. mine e.0.to) (λ e. mine e.0.from ≡ false) outs strange)

  module _ (d : Window S C R) (ds : List (Window S C R)) (u : World S C) (outs : List (Key × C)) (ready : Ready u)
      (late : AllByRecursion (λ e. bounds (division e.0.to) ≤ e.0.at) outs) (apart : AllByRecursion (λ e. d.part ≢ e.part) ds) (awaits : Awaits u outs d) where
    first_led : Led step own division bounds Test Ready offers d.part (for_own (owns d) outs) (late_own d.part outs late) (strange_own (owns d) outs awaits.strange) u d.after d.keys d.out d.rows
    first_led =
        leads step own division bounds Test Ready offers d.part (for_own (owns d) outs) (late_own d.part outs late) (strange_own (owns d) outs awaits.strange)
        d.keys u (part_of (owns d) w) d.after d.out d.rows ready awaits.cut awaits.window.run

    -- the parts whose windows are still to come await theirs
    still_awaits : (e : Window S C R) → d.part ≢ e.part → Awaits u outs e → Awaits first_led.world (outs ++ d.out) e
    still_awaits e other h = record {
      cut =
          first_led.others (owns e) (parts_apart division e.part d.part (λ same. other (sym same)))
          ∙ ap (λ x. with_arrivals x (for_own (owns e) d.out)) h.cut
          ∙ joined_joined (part_of (owns e) w) (for_own (owns e) outs) (for_own (owns e) d.out)
          ∙ ap (with_arrivals (part_of (owns e) w)) (sym (own_append (owns e) outs d.out));
      strange = all_append _ outs d.out h.strange (all_weaker _ (λ f. owns e f.0.from ≡ false) (λ f from. parts_apart division d.part e.part other f.0.from from) d.out first_led.from);
      window = h.window;
    }

    all_still : (es : List (Window S C R)) → AllByRecursion (λ e. d.part ≢ e.part) es → AllByRecursion (Awaits u outs) es → AllByRecursion (Awaits first_led.world (outs ++ d.out)) es
    all_still [] others await = tt
    all_still (e ∷ es) others await = (still_awaits e others.0 await.0, all_still es others.1 await.1)

    then_rest : AllLed first_led.world (outs ++ d.out) ds → AllLed u outs (d ∷ ds)
    then_rest rest = record {
      world = rest.world;
      schedule = schedule_append step Test d.keys _ u first_led.world rest.world d.rows _ first_led.schedule rest.schedule;
      ready = rest.ready;
      far = all_append _ d.out (all_out ds) first_led.far rest.far;
      parts = (
        rest.others d.part (all_weaker _ (λ e. e.part ≢ d.part) (λ e other same. other (sym same)) ds apart)
            ∙ ap (λ x. with_arrivals x (for_own (owns d) (all_out ds))) first_led.cut
            ∙ joined_joined d.after (for_own (owns d) outs) (for_own (owns d) (all_out ds))
            ∙ ap (with_arrivals d.after)
            (ap (λ l. for_own (owns d) outs ++ (l ++ for_own (owns d) (all_out ds))) (sym (own_of_run step (owns d) (bounds d.part) d.keys (part_of (owns d) w) d.after d.out d.rows awaits.window.run))
            ∙ ap (λ l. for_own (owns d) outs ++ l) (sym (own_append (owns d) d.out (all_out ds)))
            ∙ sym (own_append (owns d) outs (d.out ++ all_out ds))),
        all_weaker _ (λ e. part_of (owns e) rest.world ≡ with_arrivals e.after (for_own (owns e) (outs ++ (d.out ++ all_out ds))))
            (λ e h. h ∙ ap (λ l. with_arrivals e.after (for_own (owns e) l)) (append_assoc outs d.out (all_out ds))) ds rest.parts,
      );
      others = λ part apart_from.
          rest.others part apart_from.1
          ∙ ap (λ x. with_arrivals x (for_own (is_in division part) (all_out ds))) (first_led.others (is_in division part) (parts_apart division part d.part (λ same. apart_from.0 (sym same))))
          ∙ joined_joined (part_of (is_in division part) u) (for_own (is_in division part) d.out) (for_own (is_in division part) (all_out ds))
          ∙ ap (with_arrivals (part_of (is_in division part) u)) (sym (own_append (is_in division part) d.out (all_out ds)));
    }

  -- windows of different parts, one after the other
  all_led : (ds : List (Window S C R)) (u : World S C) (outs : List (Key × C)) → Ready u → AllByRecursion (λ e. bounds (division e.0.to) ≤ e.0.at) outs
      → IsRising (λ d e. d.part ≢ e.part) ds → AllByRecursion (Awaits u outs) ds → AllLed u outs ds
  all_led [] u outs ready late apart awaits = record { world = u; schedule = (refl, refl); ready = ready; far = tt; parts = tt; others = λ part _. refl }
  all_led (d ∷ ds) u outs ready late apart awaits =
      let led = first_led d ds u outs ready late apart.0 awaits.0 in
      then_rest d ds u outs ready late apart.0 awaits.0
      (all_led ds led.world (outs ++ d.out) led.ready (all_append _ outs d.out late led.far) apart.1 (all_still d ds u outs ready late apart.0 awaits.0 ds apart.0 awaits.1))

  -- ---- the statement of all windows of a world

  none_has : (ds : List (Window S C R)) (part : ℕ) → ¬ (IncludesPart ds part) → AllByRecursion (λ d. d.part ≢ part) ds
  none_has [] part none = tt
  none_has (d ∷ ds) part none = (λ same. none (inl same), none_has ds part (λ h. none (inr h)))

  await_first : (ds : List (Window S C R)) → AllByRecursion (IsWindowOfItsPart step division bounds w) ds → AllByRecursion (Awaits w []) ds
  await_first ds windows = all_weaker _ (Awaits w []) (λ d window. record { cut = refl; strange = tt; window = window }) ds windows

  module _ (ds : List (Window S C R)) (ready : Ready w) (are : AreWindowsOfDifferentParts step division bounds w ds) where
    led_by_all : AllLed w [] ds
    led_by_all = all_led ds w [] ready tt are.different (await_first ds are.windows)

    -- where the windows lead
    pub after_all : World S C
    after_all = led_by_all.world

    pub all_schedule : Schedule step Test w (all_keys ds) (all_rows ds) after_all
    unfolding after_all
    all_schedule = led_by_all.schedule

    pub ready_after : Ready after_all
    unfolding after_all
    ready_after = led_by_all.ready

    pub stands_after : StandsAfter division w ds after_all
    unfolding after_all
    stands_after = record { parts = led_by_all.parts; others = λ part none. led_by_all.others part (none_has ds part none) }

    left_by : (q : Key) (es : List (Window S C R)) → IsPending after_all q → IncludesPart es (division q.to) → AllByRecursion (IsWindowOfItsPart step division bounds w) es
        → AllByRecursion (λ d. part_of (owns d) after_all ≡ with_arrivals d.after (for_own (owns d) (all_out ds))) es → bounds (division q.to) ≤ q.at
    left_by q [] here none windows parts = absurd none
    left_by q (d ∷ es) here (inr more) windows parts = left_by q es here more windows.1 parts.1
    left_by q (d ∷ es) here (inl same) windows parts =
        let kept : IsPending (part_of (owns d) after_all) q =
        ap is_some (get_retained key_total key_exact (λ r. owns d r.to) (after_all).pending q ∙ ap (λ b. cond b (get (after_all).pending q) None) (eq-eqb (division q.to) d.part (sym same))) ∙ here in
        subst (λ n. bounds n ≤ q.at) same
        (holds-with_events (λ r. bounds d.part ≤ r.at) (for_own (owns d) (all_out ds)) d.after.pending windows.0.done (late_own d.part (all_out ds) led_by_all.far)
        q (subst (λ (x : World S C). contains_key x.pending q ≡ true) parts.0 kept))

    -- nothing is left below the bound for a part that had its window
    pub none_left : (q : Key) → IsPending after_all q → IncludesPart ds (division q.to) → bounds (division q.to) ≤ q.at
    none_left q here has = left_by q ds here has are.windows stands_after.parts

early_of_run : {S C R : Type 0} (step : Machine S C R) (owns : ℕ → Bool) (bound : ℕ) (ks : List Key) (p v : World S C) (out : List (Key × C)) (rows : List R) → PartRun step owns bound p ks out rows v
    → AllByRecursion (λ k. k.at < bound) ks
early_of_run step owns bound [] p v out rows run = tt
early_of_run step owns bound (k ∷ ks) p v out rows run = (run.5.early, early_of_run step owns bound ks run.0 v run.2 run.4 run.6)

-- all events of the windows are before the bound
pub keys_early : {S C R : Type 0} (step : Machine S C R) (division : ℕ → ℕ) (bound : ℕ) (w : World S C) (ds : List (Window S C R)) → AllByRecursion (IsWindowOfItsPart step division (λ part. bound) w) ds
    → AllByRecursion (λ k. k.at < bound) (all_keys ds)
keys_early step division bound w [] windows = tt
keys_early step division bound w (d ∷ ds) windows =
    all_append _ d.keys (all_keys ds) (early_of_run step (is_in division d.part) bound d.keys (part_of (is_in division d.part) w) d.after d.out d.rows windows.0.run)
    (keys_early step division bound w ds windows.1)

member_kept : {S C : Type 0} (division : ℕ → ℕ) (u : World S C) (m : ℕ) → get (part_of (is_in division (division m)) u).members m ≡ get u.members m
member_kept division u m =
    get_retained nat_cmp_total nat_cmp-IsAntisymmetric (is_in division (division m)) u.members m ∙ ap (λ b. cond b (get u.members m) None) (eq-eqb (division m) (division m) refl)

event_kept : {S C : Type 0} (division : ℕ → ℕ) (u : World S C) (q : Key) → get (part_of (is_in division (division q.to)) u).pending q ≡ get u.pending q
event_kept division u q =
    get_retained key_total key_exact (λ r. is_in division (division q.to) r.to) u.pending q ∙ ap (λ b. cond b (get u.pending q) None) (eq-eqb (division q.to) (division q.to) refl)

-- worlds of which each part is the same are one
pub same_parts : {S C : Type 0} (division : ℕ → ℕ) (u v : World S C) → ((part : ℕ) → part_of (is_in division part) u ≡ part_of (is_in division part) v) → u ≡ v
same_parts division u v same =
    let members : u.members ≡ v.members =
    same_map nat_cmp_total nat_cmp-IsAntisymmetric _ _ (λ m.
    sym (member_kept division u m) ∙ ap (λ x. get x.members m) (same (division m)) ∙ member_kept division v m) in
    let pending : u.pending ≡ v.pending =
    same_map key_total key_exact _ _ (λ q.
    sym (event_kept division u q) ∙ ap (λ x. get x.pending q) (same (division q.to)) ∙ event_kept division v q) in
    λ i. record { members = members i; pending = pending i }

-- ---- one world

part_same : {S C R : Type 0} (division : ℕ → ℕ) (ds es : List (Window S C R)) (u v : World S C) (part : ℕ)
    → AllByRecursion (λ d. part_of (is_in division d.part) u ≡ with_arrivals d.after (for_own (is_in division d.part) (all_out ds))) es
    → AllByRecursion (λ d. part_of (is_in division d.part) v ≡ with_arrivals d.after (for_own (is_in division d.part) (all_out ds))) es
    → (¬ (IncludesPart es part) → part_of (is_in division part) u ≡ part_of (is_in division part) v) → part_of (is_in division part) u ≡ part_of (is_in division part) v
part_same division ds [] u v part first second none = none (λ has. has)
part_same division ds (d ∷ es) u v part first second none = by_number (eqb_tells d.part part) (part_same division ds es u v part first.1 second.1)
  where
    by_number : ((eqb d.part part ≡ true) × (d.part ≡ part)) ⊎ ((eqb d.part part ≡ false) × (d.part ≢ part))
        → ((¬ (IncludesPart es part) → part_of (is_in division part) u ≡ part_of (is_in division part) v) → part_of (is_in division part) u ≡ part_of (is_in division part) v)
        → part_of (is_in division part) u ≡ part_of (is_in division part) v
    by_number (inl here) rest = subst (λ n. part_of (is_in division n) u ≡ part_of (is_in division n) v) here.1 (first.0 ∙ sym second.0)
    by_number (inr other) rest = rest (λ gone. none (neither gone))
      where
        neither : ¬ (IncludesPart es part) → ¬ (IncludesPart (d ∷ es) part)
        neither gone (inl here) = other.1 here
        neither gone (inr more) = gone more

-- the world that stands after these windows is one
pub stands_once : {S C R : Type 0} (division : ℕ → ℕ) (w u v : World S C) (ds : List (Window S C R)) → StandsAfter division w ds u → StandsAfter division w ds v → u ≡ v
stands_once division w u v ds first second =
    same_parts division u v (λ part. part_same division ds ds u v part first.parts second.parts (λ none. first.others part none ∙ sym (second.others part none)))
