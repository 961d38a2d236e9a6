-- What pends in the world after windows: what pends in the parts after theirs, and what went out.
use Rattle.std.proofs.Common.{◌≡◌, ◌≢◌, ◌⊎◌, ℕ, ◌≤◌, Bool, true, false, eqb, cond, List, [], ◌∷◌, Some, None, ap, inl, inr, ◌∙◌, sym, subst, refl}
use Rattle.std.specs.Option.{is_some}
use Rattle.std.specs.List.{AllByRecursion, filter}
use Rattle.std.specs.Ordering.{eq_by_cmp, is_eq}
use Rattle.std.specs.Cmp.{tied_itself}
use Rattle.std.specs.FinMap.{FinMap, get, contains_key, insert, get-insert}
use Rattle.std.proofs.lemmas.Bool.{false≢true, eq-eqb}
use Rattle.std.proofs.lemmas.Bool.Decides.{eqb_tells}
use Rattle.base.specs.declared.key.Key.{Key}
use Rattle.base.specs.Order.{key_cmp, key_total, key_exact}
use Rattle.base.specs.World.{IsPending, with_events}
use Rattle.base.specs.Run.{holds-with_events}
use Rattle.base.proofs.Rising.{all_append, all_weaker, all_front, all_back}
use Rattle.trace.specs.declared.row.Row.{Row}
use Rattle.worker_queue.specs.Queue.{NoneIsBelow}
use Rattle.member.specs.declared.event_kind.EventKind.{EventKind}
use Rattle.member.specs.State.{State}
use Rattle.member_laws.specs.Runs.{Cluster}
use Rattle.windows.specs.Parts.{Window, IncludesPart, StandsAfter, part_of, for_own, with_arrivals, is_in, all_out}
use Rattle.windows.proofs.Cuts.{get_retained, all_kept}
use Rattle.windows.proofs.Wholes.{pending_kept}

-- ---- lists

module _ {A : Type 0} (test : A → Bool) where
  -- what holds of all that is kept holds of what passes
  pub all_passing : (P : A → Type 0) (xs : List A) → AllByRecursion P (filter test xs) → AllByRecursion (λ x. test x ≡ true → P x) xs
  all_passing P [] all = tt
  all_passing P (x ∷ xs) all = either (test x) refl all (all_passing P xs)
    where
      either : (b : Bool) → test x ≡ b → AllByRecursion P (cond b (x ∷ filter test xs) (filter test xs)) → (AllByRecursion P (filter test xs) → AllByRecursion (λ x. test x ≡ true → P x) xs)
          → (test x ≡ true → P x) × AllByRecursion (λ x. test x ≡ true → P x) xs
      either true e all rest = (λ passes. all.0, rest all.1)
      either false e all rest = (λ passes. absurd (false≢true (sym e ∙ passes)), rest all)

-- for all numbers of each item, or of each item for all numbers
for_each : {A : Type 0} (Q : ℕ → A → Type 0) (xs : List A) → ((n : ℕ) → AllByRecursion (Q n) xs) → AllByRecursion (λ x. (n : ℕ) → Q n x) xs
for_each Q [] all = tt
for_each Q (x ∷ xs) all = (λ n. (all n).0, for_each Q xs (λ n. (all n).1))

-- ---- events that come

module _ {C : Type 0} where
  inserted : (pending : FinMap key_cmp C) (k q : Key) (c : C) → contains_key pending q ≡ true → contains_key (insert pending k c) q ≡ true
  inserted pending k q c here = ap is_some (get-insert key_total pending k c q) ∙ by_test (eq_by_cmp key_cmp q k)
    where
      by_test : (b : Bool) → is_some (cond b (Some c) (get pending q)) ≡ true
      by_test true = refl
      by_test false = here

  inserted_itself : (pending : FinMap key_cmp C) (k : Key) (c : C) → contains_key (insert pending k c) k ≡ true
  inserted_itself pending k c = ap is_some (get-insert key_total pending k c k) ∙ ap (λ o. is_some (cond (is_eq o) (Some c) (get pending k))) (tied_itself key_total k)

  -- what pends pends still
  pub pends_still : (es : List (Key × C)) (pending : FinMap key_cmp C) (q : Key) → contains_key pending q ≡ true → contains_key (with_events pending es) q ≡ true
  pends_still [] pending q here = here
  pends_still (e ∷ es) pending q here = pends_still es (insert pending e.0 e.1) q (inserted pending e.0 q e.1 here)

  -- and so does what comes
  pub all_pend : (es : List (Key × C)) (pending : FinMap key_cmp C) → AllByRecursion (λ e. contains_key (with_events pending es) e.0 ≡ true) es
  all_pend [] pending = tt
  all_pend (e ∷ es) pending = (pends_still es (insert pending e.0 e.1) e.0 (inserted_itself pending e.0 e.1), all_pend es (insert pending e.0 e.1))

-- ---- the world after windows

module _ (division : ℕ → ℕ) (w v : Cluster) (ds : List (Window State EventKind Row)) (stands : StandsAfter division w ds v) where
  abbrev Came : ℕ → Type 0
  Came part = (x : Cluster) × (part_of (is_in division part) v ≡ with_arrivals x (for_own (is_in division part) (all_out ds)))

  neither : (part : ℕ) (d : Window State EventKind Row) (es : List (Window State EventKind Row)) → d.part ≢ part → ¬ (IncludesPart es part) → ¬ (IncludesPart (d ∷ es) part)
  neither part d es other gone (inl here) = other here
  neither part d es other gone (inr more) = gone more

  by_number : (part : ℕ) (d : Window State EventKind Row) → part_of (is_in division d.part) v ≡ with_arrivals d.after (for_own (is_in division d.part) (all_out ds))
      → ((eqb d.part part ≡ true) × (d.part ≡ part)) ⊎ ((eqb d.part part ≡ false) × (d.part ≢ part)) → (d.part ≢ part → Came part) → Came part
  by_number part d cut (inl here) rest = (d.after, subst (λ n. part_of (is_in division n) v ≡ with_arrivals d.after (for_own (is_in division n) (all_out ds))) here.1 cut)
  by_number part d cut (inr other) rest = rest other.1

  by_windows : (part : ℕ) (es : List (Window State EventKind Row))
      → AllByRecursion (λ (d : Window State EventKind Row). part_of (is_in division d.part) v ≡ with_arrivals d.after (for_own (is_in division d.part) (all_out ds))) es
      → (¬ (IncludesPart es part) → Came part) → Came part
  by_windows part [] parts none = none (λ has. has)
  by_windows part (d ∷ es) parts none =
      by_number part d parts.0 (eqb_tells d.part part) (λ other. by_windows part es parts.1 (λ gone. none (neither part d es other gone)))

  -- to each part has come what went out for it
  came : (part : ℕ) → Came part
  came part = by_windows part ds stands.parts (λ none. (part_of (is_in division part) w, stands.others part none))

  came_pends : (part : ℕ) → AllByRecursion (λ (e : Key × EventKind). is_in division part e.0.to ≡ true → IsPending v e.0) (all_out ds)
  came_pends part =
      let here = came part in
      let own = for_own (is_in division part) (all_out ds) in
      all_passing (λ (e : Key × EventKind). is_in division part e.0.to) (λ (e : Key × EventKind). IsPending v e.0) (all_out ds)
      (all_weaker (λ (e : Key × EventKind). contains_key (with_events here.0.pending own) e.0 ≡ true) (λ e. IsPending v e.0)
      (λ e there. pending_kept (is_in division part) v e.0 (subst (λ (x : Cluster). contains_key x.pending e.0 ≡ true) (sym here.1) there))
      own (all_pend own here.0.pending))

  -- all that went out pends
  out_pends : AllByRecursion (λ (e : Key × EventKind). IsPending v e.0) (all_out ds)
  out_pends =
      all_weaker (λ (e : Key × EventKind). (part : ℕ) → is_in division part e.0.to ≡ true → IsPending v e.0) (λ e. IsPending v e.0)
      (λ e all. all (division e.0.to) (eq-eqb (division e.0.to) (division e.0.to) refl)) (all_out ds)
      (for_each (λ part (e : Key × EventKind). is_in division part e.0.to ≡ true → IsPending v e.0) (all_out ds) came_pends)

  module _ (t : ℕ) where
    -- nothing is left before the moment, neither in the part nor of what went out
    abbrev pub IsLate : Window State EventKind Row → Type 0
    IsLate d = NoneIsBelow d.after.pending t × AllByRecursion (λ (e : Key × EventKind). t ≤ e.0.at) d.out

    pub late_windows : NoneIsBelow v.pending t → AllByRecursion IsLate ds
    late_windows none =
        each ds stands.parts (all_weaker (λ (e : Key × EventKind). IsPending v e.0) (λ e. t ≤ e.0.at) (λ e here. none e.0 here) (all_out ds) out_pends)
      where
        each : (es : List (Window State EventKind Row)) → AllByRecursion (λ (d : Window State EventKind Row). part_of (is_in division d.part) v ≡ with_arrivals d.after (for_own (is_in division d.part) (all_out ds))) es
            → AllByRecursion (λ (e : Key × EventKind). t ≤ e.0.at) (all_out es) → AllByRecursion IsLate es
        each [] parts late = tt
        each (d ∷ es) parts late = (
          (
            λ q here. none q (pending_kept (is_in division d.part) v q
                (subst (λ (x : Cluster). contains_key x.pending q ≡ true) (sym parts.0) (pends_still (for_own (is_in division d.part) (all_out ds)) d.after.pending q here))),
            all_front (λ (e : Key × EventKind). t ≤ e.0.at) d.out (all_out es) late,
          ),
          each es parts.1 (all_back (λ (e : Key × EventKind). t ≤ e.0.at) d.out (all_out es) late),
        )

    out_late : (es : List (Window State EventKind Row)) → AllByRecursion IsLate es → AllByRecursion (λ (e : Key × EventKind). t ≤ e.0.at) (all_out es)
    out_late [] late = tt
    out_late (d ∷ es) late = all_append (λ (e : Key × EventKind). t ≤ e.0.at) d.out (all_out es) late.0.1 (out_late es late.1)

    pub late_world : AllByRecursion IsLate ds → ((q : Key) → IsPending v q → IncludesPart ds (division q.to)) → NoneIsBelow v.pending t
    late_world late has q here = from_by ds (has q here) stands.parts late
      where
        from_by : (es : List (Window State EventKind Row)) → IncludesPart es (division q.to)
            → AllByRecursion (λ (d : Window State EventKind Row). part_of (is_in division d.part) v ≡ with_arrivals d.after (for_own (is_in division d.part) (all_out ds))) es → AllByRecursion IsLate es → t ≤ q.at
        from_by [] none parts all = absurd none
        from_by (d ∷ es) (inr more) parts all = from_by es more parts.1 all.1
        from_by (d ∷ es) (inl same) parts all =
            let owns = is_in division d.part in
            let kept : IsPending (part_of owns v) q =
            ap is_some (get_retained key_total key_exact (λ r. owns r.to) v.pending q ∙ ap (λ b. cond b (get v.pending q) None) (eq-eqb (division q.to) d.part (sym same))) ∙ here in
            let own = for_own owns (all_out ds) in
            holds-with_events (λ r. t ≤ r.at) own d.after.pending all.0.0
            (all_weaker _ (λ (e : Key × EventKind). t ≤ e.0.at) (λ e h. h.1) own (all_kept (λ (e : Key × EventKind). owns e.0.to) (λ (e : Key × EventKind). t ≤ e.0.at) (all_out ds) (out_late ds late)))
            q (subst (λ (x : Cluster). contains_key x.pending q ≡ true) parts.0 kept)
