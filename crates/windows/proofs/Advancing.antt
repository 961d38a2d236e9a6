-- What becomes of a part when its least event is taken and handled, and what was made of it delivered.
use Rattle.std.proofs.Common.{◌≡◌, ℕ, ◌<◌, Bool, cond, [], ◌∷◌, ◌++◌, map, Option, Some, None, ap, ◌∙◌, sym, refl}
use Rattle.std.specs.Option.{option_map}
use Rattle.std.specs.Ordering.{nat_cmp, is_eq}
use Rattle.std.specs.Cmp.{nat_cmp_total, tied_itself}
use Rattle.std.specs.FinMap.{FinMap, get, contains_key, remove, get-insert}
use Rattle.base.specs.Order.{key_cmp}
use Rattle.base.specs.World.{World, Outcome, with_events, settled, rows_of, events_of}
use Rattle.base.specs.Run.{IsFirst}
use Rattle.scenario.specs.Setup.{Setup}
use Rattle.trace.specs.declared.row.Row.{Row}
use Rattle.member.specs.declared.event_kind.EventKind.{EventKind}
use Rattle.member.specs.declared.event.Event.{Event}
use Rattle.member.specs.declared.event.Effects.{Effects}
use Rattle.member.specs.State.{State}
use Rattle.member.specs.Step.{step}
use Rattle.member.specs.StateOf.{pair_of}
use Rattle.windows.specs.Parts.{PartStep, for_own, for_others, kept_by}
use Rattle.windows.specs.Window.{is_own}
use Rattle.windows.specs.Wears.{OverflowsInWindow}
use Rattle.windows.proofs.PartRuns.{same_own, one_step_run}
use Rattle.windows.specs.Handling.{Handles, HandlesTaken, OverflowsReceiver, Advances, made_of, members_after}

module _ (s : Setup) (event : Event) (members : FinMap nat_cmp State) where
  own_either : (o : Option State) → get members event.key.to ≡ o → (q : ℕ) → contains_key (members_after members event (option_map (step s event.key event.content) o)) q ≡ contains_key members q
  own_either None none q = refl
  own_either (Some t) here q = same_own members event.key.to t (step s event.key event.content t).state here q

  -- an event that is handled leaves them
  pub own_after : (after : FinMap nat_cmp State) → after ≡ members_after members event (made_of s members event) → ◌≡◌ {A = ℕ → Bool} (contains_key after) (contains_key members)
  own_after after is = λ i q. (ap (λ m. contains_key m q) is ∙ own_either (get members event.key.to) refl q) i

-- what the receiver made of the event, alone on its lists, is delivered behind what was sent before
pub taken_handled : (s : Setup) (event : Event) (p : World State EventKind) (n : FinMap nat_cmp State) (q : FinMap key_cmp EventKind) (before alone made after : Effects)
    → alone.events.items ≡ [] → alone.rows.items ≡ [] → Handles s event p.members n alone made
    → q ≡ with_events p.pending (for_own (contains_key n) (map pair_of made.events.items))
    → map pair_of after.events.items ≡ map pair_of before.events.items ++ for_others (contains_key n) (map pair_of made.events.items)
    → after.rows.items ≡ before.rows.items ++ made.rows.items → HandlesTaken s event p (record { members = n; pending = q }) before after
taken_handled s event p n q before alone made after no_events no_rows handles delivered goes_out written =
    let mine = made.events.items in
    let own : ◌≡◌ {A = ℕ → Bool} (contains_key n) (is_own p) = own_after s event p.members n handles.members in
    let events : map pair_of mine ≡ events_of (made_of s p.members event) = handles.events ∙ ap (λ l. map pair_of l ++ events_of (made_of s p.members event)) no_events in
    record {
      members = handles.members;
      pending = delivered ∙ ap (λ (f : ℕ → Bool). with_events p.pending (for_own f (map pair_of mine))) own ∙ ap (λ es. with_events p.pending (for_own (is_own p) es)) events;
      out = goes_out ∙ ap (λ (f : ℕ → Bool). map pair_of before.events.items ++ for_others f (map pair_of mine)) own
          ∙ ap (λ es. map pair_of before.events.items ++ for_others (is_own p) es) events;
      rows = written ∙ ap (λ rows. before.rows.items ++ rows) (handles.rows ∙ ap (λ rows. rows ++ rows_of (made_of s p.members event)) no_rows);
    }

-- ---- a step

module _ (s : Setup) (bound : ℕ) (p : World State EventKind) (event : Event) (first : IsFirst p.pending event.key event.content) (early : event.key.at < bound) where
  abbrev made : Option (Outcome State EventKind Row)
  made = made_of s p.members event

  world_after : (o : Option (Outcome State EventKind Row)) (n : FinMap nat_cmp State) (q : FinMap key_cmp EventKind) → n ≡ members_after p.members event o
      → q ≡ with_events (remove p.pending event.key) (for_own (is_own p) (events_of o))
      → ◌≡◌ {A = World State EventKind} (record { members = n; pending = q }) (settled p event.key (option_map (kept_by (is_own p)) o))
  world_after None n q members pending = λ i. record { members = members i; pending = pending i }
  world_after (Some o) n q members pending = λ i. record { members = members i; pending = pending i }

  -- the least event is taken out and handled
  pub advanced : (taken : FinMap key_cmp EventKind) (v : World State EventKind) (before after : Effects) → taken ≡ remove p.pending event.key
      → HandlesTaken s event (record { members = p.members; pending = taken }) v before after → Advances s (is_own p) bound p v before after
  advanced taken v before after is_taken handled = record {
    key = event.key;
    sent = for_others (is_own p) (events_of made);
    made = rows_of made;
    next = record {
      content = event.content;
      here = first.here;
      least = first.least;
      early = early;
      world = world_after made v.members v.pending handled.members (handled.pending ∙ ap (λ m. with_events m (for_own (is_own p) (events_of made))) is_taken);
      sent = refl;
      made = refl;
    };
    out = handled.out;
    rows = handled.rows;
  }

  -- a counter has no room
  pub event_wears : OverflowsReceiver s event p.members → OverflowsInWindow s bound p
  event_wears wears =
      let o : Outcome State EventKind Row = step s event.key event.content wears.member in
      let is : made ≡ Some o = ap (option_map (step s event.key event.content)) wears.there in
      let after : World State EventKind = settled p event.key (Some (kept_by (is_own p) o)) in
      let next : PartStep (step s) (is_own p) bound p event.key (for_others (is_own p) o.events) o.rows after = record {
        content = event.content;
        here = first.here;
        least = first.least;
        early = early;
        world = ap (λ m. settled p event.key (option_map (kept_by (is_own p)) m)) (sym is);
        sent = ap (λ m. for_others (is_own p) (events_of m)) (sym is);
        made = ap rows_of (sym is);
      } in
      record {
        keys = event.key ∷ [];
        out = for_others (is_own p) o.events;
        rows = o.rows;
        world = after;
        reached = one_step_run (step s) (is_own p) bound p after (for_others (is_own p) o.events) o.rows event.key next;
        number = event.key.to;
        member = o.state;
        there = get-insert nat_cmp_total p.members event.key.to o.state event.key.to ∙ ap (λ r. cond (is_eq r) (Some o.state) (get p.members event.key.to)) (tied_itself nat_cmp_total event.key.to);
        overflow = wears.overflow;
      }
