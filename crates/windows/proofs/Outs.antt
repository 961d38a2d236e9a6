-- What a part sends out comes late; and the run itself is a schedule of safe steps.
use Rattle.std.proofs.Common.{◌≡◌, ◌≢◌, ℕ, ◌+◌, ◌<◌, ◌≤◌, Bool, true, not, List, [], ◌∷◌, Option, Some, None, ap, ◌∙◌, sym, subst, arith}
use Rattle.std.specs.Option.{IfSome, is_some, option_map}
use Rattle.std.specs.List.{AllByRecursion}
use Rattle.std.specs.FinMap.{get, contains_key, remove}
use Rattle.std.proofs.lemmas.Bool.{false≢true}
use Rattle.base.specs.declared.key.Key.{Key}
use Rattle.base.specs.Order.{IsBefore, moments-from_not_before}
use Rattle.base.specs.World.{Machine, World, IsPending, with_events, events_of, outcome, NextStep, Run}
use Rattle.base.specs.Run.{holds-with_events, contains-remove}
use Rattle.base.proofs.Rising.{all_append, all_weaker}
use Rattle.windows.specs.Delays.{KeepsDelays}
use Rattle.windows.specs.Safe.{IsSafe}
use Rattle.windows.specs.Schedule.{TestedStep, Schedule}
use Rattle.windows.specs.Parts.{for_own, for_others, kept_by, PartStep, PartRun}
use Rattle.windows.proofs.Swaps.{pending_settled}
use Rattle.windows.proofs.Early.{made_all}
use Rattle.windows.proofs.Cuts.{events_kept, all_kept}
use Rattle.windows.proofs.Far.{all_both}

module _ {S C R : Type 0} (delay : ℕ → ℕ → ℕ) (step : Machine S C R) (keeps : KeepsDelays delay step) (owns : ℕ → Bool) (bound from : ℕ) where
  -- all that pends in a part is for its own members and no earlier than a moment
  abbrev pub IsFrom : World S C → Type 0
  IsFrom p = (q : Key) → IsPending p q → (owns q.to ≡ true) × (from ≤ q.at)

  -- an event made is its maker's, comes later, and where it is for another member no earlier than the delay lets it
  abbrev Comes : Key → Key → Type 0
  Comes k e = (k.at < e.at) × (e.from ≡ k.to) × (e.to ≢ k.to → k.at + delay k.to e.to ≤ e.at)

  comes_all : (k : Key) (c : C) (s : S) → AllByRecursion (λ e. Comes k e.0) (step k c s).events
  comes_all k c s =
      all_weaker _ (λ e. Comes k e.0) (λ e h. (h.0, h.1.0, h.1.1)) (step k c s).events
      (all_both (λ e. k.at < e.0.at) (λ e. (e.0.from ≡ k.to) × (e.0.to ≢ k.to → k.at + delay k.to e.0.to ≤ e.0.at)) (step k c s).events (keeps.later k c s)
      (all_both (λ e. e.0.from ≡ k.to) (λ e. e.0.to ≢ k.to → k.at + delay k.to e.0.to ≤ e.0.at) (step k c s).events (keeps.own k c s) (keeps.delayed k c s)))

  module _ (p mid : World S C) (k : Key) (out : List (Key × C)) (made : List R) (all : IsFrom p) (is : PartStep step owns bound p k out made mid) where
    comes_here : AllByRecursion (λ e. Comes k e.0) (events_of (outcome step p k is.content))
    comes_here = made_all step Comes comes_all k is.content (get p.members k.to)

    pub handled_from : (owns k.to ≡ true) × (from ≤ k.at)
    handled_from = all k (ap is_some is.here)

    pub from_after : IsFrom mid
    from_after q here =
        holds-with_events (λ r. (owns r.to ≡ true) × (from ≤ r.at)) (for_own owns (events_of (outcome step p k is.content))) (remove p.pending k)
        (λ r there. all r (contains-remove p.pending k r there).0)
        (all_weaker _ (λ e. (owns e.0.to ≡ true) × (from ≤ e.0.at)) (λ e h. (h.0, let past = h.1.0 in let low = handled_from.1 in omega arith))
        (for_own owns (events_of (outcome step p k is.content))) (all_kept (λ e. owns e.0.to) (λ e. Comes k e.0) (events_of (outcome step p k is.content)) comes_here))
        q
        (subst (λ m. contains_key m q ≡ true)
        (ap (λ (u : World S C). u.pending) is.world ∙ pending_settled p k (option_map (kept_by owns) (outcome step p k is.content)) ∙ ap (with_events (remove p.pending k)) (events_kept owns (outcome step p k is.content)))
        here)

    late : (e : Key) → not (owns e.to) ≡ true → Comes k e → from + delay e.from e.to ≤ e.at
    late e other comes =
        let past = comes.2 (λ same. false≢true (sym (ap not (ap owns same ∙ handled_from.0)) ∙ other)) in
        let low = handled_from.1 in
        subst (λ m. from + delay m e.to ≤ e.at) (sym comes.1) (omega arith)

    sent_late : AllByRecursion (λ e. from + delay e.0.from e.0.to ≤ e.0.at) out
    sent_late =
        subst (AllByRecursion (λ e. from + delay e.0.from e.0.to ≤ e.0.at)) (sym is.sent)
        (all_weaker _ (λ e. from + delay e.0.from e.0.to ≤ e.0.at) (λ e h. late e.0 h.0 h.1)
        (for_others owns (events_of (outcome step p k is.content))) (all_kept (λ e. not (owns e.0.to)) (λ e. Comes k e.0) (events_of (outcome step p k is.content)) comes_here))

  -- what goes out comes at least its pair's delay after the moment
  pub out_late : (ks : List Key) (p after : World S C) (out : List (Key × C)) (rows : List R) → IsFrom p → PartRun step owns bound p ks out rows after
      → AllByRecursion (λ e. from + delay e.0.from e.0.to ≤ e.0.at) out
  out_late [] p after out rows all run = subst (AllByRecursion (λ e. from + delay e.0.from e.0.to ≤ e.0.at)) (sym run.1) tt
  out_late (k ∷ ks) p after out rows all run =
      subst (AllByRecursion (λ e. from + delay e.0.from e.0.to ≤ e.0.at)) (sym run.7)
      (all_append _ run.1 run.2 (sent_late p run.0 k run.1 run.3 all run.5) (out_late ks run.0 after run.2 run.4 (from_after p run.0 k run.1 run.3 all run.5) run.6))

module _ {S C R : Type 0} (step : Machine S C R) (end : ℕ) (least_delay : Option ℕ) (some : IfSome least_delay (λ d. 0 < d)) where
  near_least : (d : Option ℕ) → IfSome d (λ d. 0 < d) → (w : World S C) (k : Key) → ((q : Key) → IsPending w q → ¬ (IsBefore q k)) → IfSome d (λ d. (q : Key) → IsPending w q → k.at < q.at + d)
  near_least None some w k least = tt
  near_least (Some d) some w k least = λ q here. let h = moments-from_not_before q k (least q here) in omega (arith, some)

  next_safe : (w v : World S C) (k : Key) (made : List R) → k.at ≤ end → NextStep step w k v made → TestedStep step (IsSafe end least_delay) w k v made
  next_safe w v k made in_time next = record {
    content = next.content;
    here = next.here;
    passes = record {
      first = record { here = ap is_some next.here; least = λ q here same. next.least q here };
      in_time = in_time;
      near = near_least least_delay some w k next.least;
    };
    world = next.world;
    made = next.made;
  }

  -- a run is a schedule, whose next event is always the least of all
  pub run_is_schedule : (ks : List Key) (w v : World S C) (rows : List R) → Run step end w ks rows v → Schedule step (IsSafe end least_delay) w ks rows v
  run_is_schedule [] w v rows run = run
  run_is_schedule (k ∷ ks) w v rows run = (run.0, run.1, run.2, next_safe w run.0 k run.1 run.3 run.4, run_is_schedule ks run.0 v run.2 run.5, run.6)
