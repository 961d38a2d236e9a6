-- How far the events reach that a window sends out.
use Rattle.std.proofs.Common.{◌≡◌, ◌≢◌, ℕ, ◌+◌, ◌<◌, ◌≤◌, Bool, true, not, List, [], ◌∷◌, map, Option, Some, None, ap, ◌∙◌, sym, subst, refl, arith}
use Rattle.std.specs.Option.{is_some, option_map}
use Rattle.std.specs.List.{AllByRecursion}
use Rattle.std.specs.FinMap.{get, contains_key}
use Rattle.std.proofs.lemmas.Bool.{false≢true}
use Rattle.std.proofs.lemmas.List.Elements.{All-from_recursion}
use Rattle.base.specs.declared.key.Key.{Key}
use Rattle.base.specs.World.{World, IsPending, events_of}
use Rattle.base.specs.Run.{holds-settled}
use Rattle.base.proofs.Rising.{all_append, all_weaker}
use Rattle.scenario.specs.Setup.{Setup, IsSound, link_between}
use Rattle.trace.specs.declared.row.Row.{Row}
use Rattle.member.specs.declared.event_kind.EventKind.{EventKind}
use Rattle.member.specs.declared.event.Event.{Event}
use Rattle.member.specs.State.{State}
use Rattle.member.specs.Step.{step}
use Rattle.member.specs.StateOf.{pair_of}
use Rattle.member.proofs.Fair.{steps_later, steps_linked, steps_numbered}
use Rattle.member_laws.proofs.Moments.{both}
use Rattle.windows.specs.Parts.{PartStep, PartRun, for_others}
use Rattle.windows.proofs.Cuts.{all_kept}
use Rattle.windows.specs.Window.{is_own, TakeTheirLinks}
use Rattle.windows.proofs.PartRuns.{Kept, kept_later, next_of, own_step}

-- what holds of all as pairs, holds of all
pub of_pairs : (P : Key × EventKind → Type 0) (es : List Event) → AllByRecursion P (map pair_of es) → AllByRecursion (λ (e : Event). P (pair_of e)) es
of_pairs P [] all = tt
of_pairs P (e ∷ es) all = (all.0, of_pairs P es all.1)

module _ (s : Setup) (sound : IsSound s) (owns : ℕ → Bool) (bound : ℕ) where
  -- the event takes at least as long as its link, from this moment on
  abbrev TakesItsLink : ℕ → Key × EventKind → Type 0
  TakesItsLink t e = t + (link_between s e.0.from e.0.to).delay ≤ e.0.at

  elsewhere : (k e : Key) → owns k.to ≡ true → not (owns e.to) ≡ true → e.to ≢ k.to
  elsewhere k e own other same = false≢true (ap not (sym (ap owns same ∙ own)) ∙ other)

  takes_its_link : (k : Key) (e : Key × EventKind) → owns k.to ≡ true → not (owns e.0.to) ≡ true → (e.0.to ≢ k.to → k.at + (link_between s k.to e.0.to).delay ≤ e.0.at) → e.0.from ≡ k.to → TakesItsLink k.at e
  takes_its_link k e own other linked from =
      subst (λ sender. k.at + (link_between s sender e.0.to).delay ≤ e.0.at) (sym from) (linked (elsewhere k e.0 own other))

  sent_far : (k : Key) (c : EventKind) (o : Option State) → (is_some o ≡ true → owns k.to ≡ true) → AllByRecursion (TakesItsLink k.at) (for_others owns (events_of (option_map (step s k c) o)))
  sent_far k c None own = tt
  sent_far k c (Some t) own =
      let linked : Key × EventKind → Type 0 = λ e. e.0.to ≢ k.to → k.at + (link_between s k.to e.0.to).delay ≤ e.0.at in
      let made : Key × EventKind → Type 0 = λ e. (e.0.from ≡ k.to) × (t.next_number ≤ e.0.number) × (e.0.number < (step s k c t).state.next_number) in
      all_weaker _ (TakesItsLink k.at) (λ e h. takes_its_link k e (own refl) h.0 h.1.0 h.1.1.0) (for_others owns (step s k c t).events)
      (all_kept (λ e. not (owns e.0.to)) (λ e. linked e × made e) (step s k c t).events (both linked made (step s k c t).events (steps_linked s sound k c t) ((steps_numbered s sound).made k c t)))

  far_step : (p v : World State EventKind) (k : Key) (out : List (Key × EventKind)) (rows : List Row) → PartStep (step s) owns bound p k out rows v
      → ((m : ℕ) → contains_key p.members m ≡ true → owns m ≡ true) → AllByRecursion (TakesItsLink k.at) out
  far_step p v k out rows is own = subst (AllByRecursion (TakesItsLink k.at)) (sym is.sent) (sent_far k is.content (get p.members k.to) (own k.to))

  -- what a window sends out takes at least as long as its links, from the least pending moment on
  far_run : (t : ℕ) (ks : List Key) (p v : World State EventKind) (out : List (Key × EventKind)) (rows : List Row) → PartRun (step s) owns bound p ks out rows v
      → ((m : ℕ) → contains_key p.members m ≡ true → owns m ≡ true) → ((q : Key) → IsPending p q → t ≤ q.at) → AllByRecursion (TakesItsLink t) out
  far_run t [] p v out rows run own from = subst (AllByRecursion (TakesItsLink t)) (sym run.1) tt
  far_run t (k ∷ ks) p v out rows run own from =
      let is = run.5 in
      let next = next_of (step s) owns bound p run.0 k run.1 run.3 is in
      let begun : t ≤ k.at = from k (ap is_some is.here) in
      let mid_from : (q : Key) → IsPending run.0 q → t ≤ q.at =
      subst (λ (m : World State EventKind). (q : Key) → IsPending m q → t ≤ q.at) (sym next.world)
      (holds-settled (Kept (step s) owns) (kept_later (step s) owns (steps_later s sound)) bound (λ q. t ≤ q.at) p k next.content (λ q here other. from q here) (λ q h. omega arith)) in
      let sent = all_weaker (TakesItsLink k.at) (TakesItsLink t) (λ e h. omega arith) run.1 (far_step p run.0 k run.1 run.3 is own) in
      let more = far_run t ks run.0 v run.2 run.4 run.6 (λ m here. own m (sym (own_step (step s) owns bound p run.0 k run.1 run.3 is m) ∙ here)) mid_from in
      subst (AllByRecursion (TakesItsLink t)) (sym run.7) (all_append (TakesItsLink t) run.1 run.2 sent more)

pub all_far : (s : Setup) (bound : ℕ) (ks : List Key) (p v : World State EventKind) (out : List Event) (rows : List Row) → IsSound s → PartRun (step s) (is_own p) bound p ks (map pair_of out) rows v
    → TakeTheirLinks s p out
all_far s bound ks p v out rows sound run t from =
    All-from_recursion (λ (e : Event). TakesItsLink s sound (is_own p) bound t (pair_of e)) out
    (of_pairs (TakesItsLink s sound (is_own p) bound t) out (far_run s sound (is_own p) bound t ks p v (map pair_of out) rows run (λ m here. here) from))
