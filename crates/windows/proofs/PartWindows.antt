-- The window of a part so far, and how it goes on: what the loop that runs it keeps.
use Rattle.std.proofs.Common.{◌≡◌, ℕ, ◌+◌, ◌<◌, ◌≤◌, Bool, List, [], ◌∷◌, ◌++◌, map, All, ap, sym, subst, refl}
use Rattle.std.proofs.lemmas.List.Elements.{All-from_recursion}
use Rattle.base.specs.declared.key.Key.{Key}
use Rattle.base.specs.World.{World}
use Rattle.base.specs.Run.{MakesLater}
use Rattle.scenario.specs.Setup.{Setup, IsSound}
use Rattle.member.specs.declared.event_kind.EventKind.{EventKind}
use Rattle.member.specs.declared.event.Event.{Event}
use Rattle.member.specs.declared.event.Effects.{Effects}
use Rattle.member.specs.State.{State}
use Rattle.member.specs.Step.{step}
use Rattle.member.specs.StateOf.{pair_of}
use Rattle.member_laws.specs.Words.{IsAmongMembers}
use Rattle.worker_queue.specs.Queue.{NoneIsBelow}
use Rattle.windows.specs.Parts.{PartRun}
use Rattle.windows.specs.Window.{is_own, IsConsistentPart, RunsWindow, TakeTheirLinks}
use Rattle.windows.specs.Wears.{OverflowsInWindow}
use Rattle.windows.specs.Handling.{Advances}
use Rattle.windows.proofs.PartRuns.{own_run, runs_join, one_step_run, steps_left, fewer_left}
use Rattle.windows.proofs.Consistent.{consistent_run, among_run}
use Rattle.windows.proofs.Reach.{all_far, of_pairs}

-- how many events are left to handle, once the window of the part p has come here
abbrev pub left_in : (s : Setup) → MakesLater (step s) → ℕ → World State EventKind → World State EventKind → ℕ
left_in s later bound p v = steps_left (step s) (is_own p) bound later v

-- the window so far leads from the part p to the part v, and this came of it
pub record IsWindowSoFar (s : Setup) (bound : ℕ) (p v : World State EventKind) (so_far : Effects) : Type 0 where
  pub keys : List Key
  pub run : PartRun (step s) (is_own p) bound p keys (map pair_of so_far.events.items) so_far.rows.items v

pub no_window : (s : Setup) (bound : ℕ) (p : World State EventKind) (none : Effects) → none.events.items ≡ [] → none.rows.items ≡ [] → IsWindowSoFar s bound p p none
no_window s bound p none events rows = record { keys = []; run = (refl, ap (map pair_of) events, rows) }

module _ (s : Setup) (bound : ℕ) (p v : World State EventKind) (so_far : Effects) (has : IsWindowSoFar s bound p v so_far) where
  -- the part has the members that it had
  same_members : ◌≡◌ {A = ℕ → Bool} (is_own v) (is_own p)
  same_members = λ i q. own_run (step s) (is_own p) bound has.keys p v (map pair_of so_far.events.items) so_far.rows.items has.run q i

  pub one_more : (u : World State EventKind) (after : Effects) → Advances s (is_own v) bound v u so_far after → IsWindowSoFar s bound p u after
  one_more u after is =
      let next = subst (λ owns. Advances s owns bound v u so_far after) same_members is in
      record {
        keys = has.keys ++ next.key ∷ [];
        run = subst (λ out. PartRun (step s) (is_own p) bound p (has.keys ++ next.key ∷ []) out after.rows.items u) (sym next.out)
            (subst (λ rows. PartRun (step s) (is_own p) bound p (has.keys ++ next.key ∷ []) (map pair_of so_far.events.items ++ next.sent) rows u) (sym next.rows)
            (runs_join (step s) (is_own p) bound has.keys (next.key ∷ []) p v u (map pair_of so_far.events.items) next.sent so_far.rows.items next.made has.run
            (one_step_run (step s) (is_own p) bound v u next.sent next.made next.key next.next)));
      }

  -- a step leaves fewer events to handle
  pub fewer : (later : MakesLater (step s)) (u : World State EventKind) (after : Effects) → Advances s (is_own v) bound v u so_far after → left_in s later bound p u < left_in s later bound p v
  fewer later u after is =
      let next = subst (λ owns. Advances s owns bound v u so_far after) same_members is in
      fewer_left (step s) (is_own p) bound later v u next.key next.sent next.made next.next

  -- a counter that passes its limit from here on does so in the window
  pub window_wears : OverflowsInWindow s bound v → OverflowsInWindow s bound p
  window_wears wears = record {
    keys = has.keys ++ wears.keys;
    out = map pair_of so_far.events.items ++ wears.out;
    rows = so_far.rows.items ++ wears.rows;
    world = wears.world;
    reached = runs_join (step s) (is_own p) bound has.keys wears.keys p v wears.world (map pair_of so_far.events.items) wears.out so_far.rows.items wears.rows has.run
        (subst (λ owns. PartRun (step s) owns bound v wears.keys wears.out wears.rows wears.world) same_members wears.reached);
    number = wears.number;
    member = wears.member;
    there = wears.there;
    overflow = wears.overflow;
  }

  module _ (sound : IsSound s) where
    pub window_consistent : bound ≤ s.end + 1 → IsConsistentPart s p → IsConsistentPart s v
    window_consistent in_time before = consistent_run s sound (is_own p) bound in_time has.keys p v (map pair_of so_far.events.items) so_far.rows.items has.run (λ q own. own) before

    pub window_among : bound ≤ s.end + 1 → IsConsistentPart s p → All (λ (e : Event). IsAmongMembers s e.key e.content) so_far.events.items
    window_among in_time before =
        All-from_recursion (λ (e : Event). IsAmongMembers s e.key e.content) so_far.events.items
        (of_pairs (λ e. IsAmongMembers s e.0 e.1) so_far.events.items
        (among_run s sound (is_own p) bound in_time has.keys p v (map pair_of so_far.events.items) so_far.rows.items has.run (λ q own. own) before))

    pub window_far : TakeTheirLinks s p so_far.events.items
    window_far = all_far s bound has.keys p v so_far.events.items so_far.rows.items sound has.run

  -- where nothing is left below the bound, the window is whole
  pub window_over : NoneIsBelow v.pending bound → RunsWindow s bound p so_far.events.items so_far.rows.items v
  window_over none = (has.keys, record { run = has.run; done = none })
