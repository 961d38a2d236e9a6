-- Wherever a drive comes, events are for members and of members.
use Rattle.std.proofs.Common.{◌≡◌, ◌≢◌, ◌++◌, ◌∷◌, ◌∙◌, length, ◌⊎◌, inl, inr, ℕ, ◌≤◌, ◌<◌, Bool, true, false, cond, List, [], map, Option, Some, None, ap, sym, subst, refl}
use Rattle.std.specs.Option.{is_some, option_map}
use Rattle.std.specs.List.{AllByRecursion}
use Rattle.std.specs.Ordering.{eq_by_cmp, is_eq}
use Rattle.std.specs.Cmp.{tied_itself}
use Rattle.std.specs.FinMap.{FinMap, get, contains_key, insert, remove, get-insert}
use Rattle.base.specs.declared.key.Key.{Key}
use Rattle.base.specs.World.{World, Outcome, IsPending, settled, rows_of, events_of, with_events}
use Rattle.base.specs.Order.{key_cmp, key_total}
use Rattle.base.specs.Run.{holds-with_events, contains-remove, tells}
use Rattle.base.proofs.Rising.{all_append, all_weaker}
use Rattle.windows.proofs.Early.{get-removed}
use Rattle.scenario.specs.Setup.{Setup, IsSound, member_count}
use Rattle.trace.specs.declared.row.Row.{Row}
use Rattle.member.specs.Places.{place_of}
use Rattle.drive_events.specs.declared.content.Content.{Content}
use Rattle.drive_answers.specs.declared.action.Action.{Action}
use Rattle.drive_process.specs.Answers.{AreSoundActions, AreSoundAnswers}
use Rattle.drive_process.specs.Driven.{Answers, heeded, driven}
use Rattle.drive_process.specs.Fair.{IsWellMade}
use Rattle.drive_process.specs.Process.{Process, unchanged}
use Rattle.drive_process.proofs.Fair.{fair_driven}
use Rattle.drive_world.specs.Courses.{outcome_by}
use Rattle.drive_world.specs.declared.world.World.{World as Held}
use Rattle.drive_world.specs.DriveOf.{world_of, IsPeopled, Settles}
use Rattle.drive_world.specs.Rows.{key_of}
use Rattle.drive_world.specs.Turns.{Waits, IsOnWay}

-- what holds of the events that pend and of those made holds of all that pend then
pub holds_after : (P : Key → Type 0) (w : World Process Content) (k : Key) (o : Option (Outcome Process Content Row)) → ((r : Key) → IsPending w r → P r) → AllByRecursion (λ e. P e.0) (events_of o)
    → (r : Key) → IsPending (settled w k o) r → P r
holds_after P w k None old new r here = old r (contains-remove w.pending k r here).0
holds_after P w k (Some o) old new r here = holds-with_events P o.events (remove w.pending k) (λ t there. old t (contains-remove w.pending k t there).0) new r here

all_keyed : (k : Key) (rows : List Row) (is : List ℕ) → map place_of rows ≡ map (λ i. (k, i)) is → AllByRecursion (λ row. key_of row ≡ k) rows
all_keyed k [] is same = tt
all_keyed k (row ∷ rows) [] same = cc
all_keyed k (row ∷ rows) (i ∷ is) same =
    let whole : place_of row ∷ map place_of rows ≡ (k, i) ∷ map (λ i. (k, i)) is = same in
    let first : place_of row ≡ (k, i) = cc in
    let rest : map place_of rows ≡ map (λ i. (k, i)) is = cc in
    (ap (λ (p : Key × ℕ). p.0) first, all_keyed k rows is rest)

-- answers that give these actions to the one event, and none to others
only : Key → List Action → Answers
only k actions q = cond (eq_by_cmp key_cmp q k) actions []

sound_only : (s : Setup) (k : Key) (actions : List Action) → AreSoundActions s k.to actions → AreSoundAnswers s (only k actions)
unfolding only
sound_only s k actions are q = by_test (eq_by_cmp key_cmp q k) refl
  where
    by_test : (b : Bool) → eq_by_cmp key_cmp q k ≡ b → AreSoundActions s q.to (cond b actions [])
    by_test true same = subst (λ (r : Key). AreSoundActions s r.to actions) (sym (tells q k same)) are
    by_test false other = tt

the_one : (k : Key) (actions : List Action) → only k actions k ≡ actions
unfolding only
the_one k actions = ap (λ b. cond b actions []) (ap is_eq (tied_itself key_total k))

module _ (s : Setup) (sound : IsSound s) (k : Key) (content : Content) (actions : List Action) (are : AreSoundActions s k.to actions) (member : k.to < member_count s) where
  well_made : (p : Process) → IsWellMade s k p.next_number (heeded s k content p.phase actions (unchanged p))
  unfolding driven
  well_made p =
      subst (λ list. IsWellMade s k p.next_number (heeded s k content p.phase list (unchanged p))) (the_one k actions)
      (fair_driven s sound (only k actions) (sound_only s k actions are) k content p)

  for_member : (e : Key) → (e.to ≡ k.to) ⊎ (e.to < member_count s) → e.to < member_count s
  for_member e (inl own) = subst (λ m. m < member_count s) (sym own) member
  for_member e (inr other) = other

  receivers : (held : Option Process) → AllByRecursion (λ e. e.0.to < member_count s) (events_of (option_map (λ p. heeded s k content p.phase actions (unchanged p)) held))
  receivers None = tt
  receivers (Some p) =
      all_weaker (λ e. (e.0.to ≡ k.to) ⊎ (e.0.to < member_count s)) (λ e. e.0.to < member_count s) (λ e whom. for_member e.0 whom)
      (heeded s k content p.phase actions (unchanged p)).events (well_made p).peopled

  senders : (held : Option Process) → AllByRecursion (λ e. e.0.from < member_count s) (events_of (option_map (λ p. heeded s k content p.phase actions (unchanged p)) held))
  senders None = tt
  senders (Some p) =
      let o = heeded s k content p.phase actions (unchanged p) in
      all_weaker (λ e. (e.0.from ≡ k.to) × (p.next_number ≤ e.0.number) × (e.0.number < o.state.next_number)) (λ e. e.0.from < member_count s)
      (λ e made. subst (λ m. m < member_count s) (sym made.0) member) o.events (well_made p).made

  later_by : (held : Option Process) → AllByRecursion (λ e. k.at < e.0.at) (events_of (option_map (λ p. heeded s k content p.phase actions (unchanged p)) held))
  later_by None = tt
  later_by (Some p) = (well_made p).later

  keyed_by : (held : Option Process) → AllByRecursion (λ row. key_of row ≡ k) (rows_of (option_map (λ p. heeded s k content p.phase actions (unchanged p)) held))
  keyed_by None = tt
  keyed_by (Some p) = all_keyed k (heeded s k content p.phase actions (unchanged p)).rows _ (well_made p).counts

  -- each event that is made comes later, and each row carries the event's key
  pub events_later : (w : World Process Content) → AllByRecursion (λ e. k.at < e.0.at) (events_of (outcome_by s actions w k content))
  events_later w = later_by (get w.members k.to)

  pub rows_keyed : (w : World Process Content) → AllByRecursion (λ row. key_of row ≡ k) (rows_of (outcome_by s actions w k content))
  rows_keyed w = keyed_by (get w.members k.to)

  pub people_after : (w : World Process Content) → IsPeopled s w → IsPeopled s (settled w k (outcome_by s actions w k content))
  people_after w people = record {
    receivers = holds_after (λ q. q.to < member_count s) w k (outcome_by s actions w k content) people.receivers (receivers (get w.members k.to));
    senders = holds_after (λ q. q.from < member_count s) w k (outcome_by s actions w k content) people.senders (senders (get w.members k.to));
  }

-- ---- what waits pends still

some_still : {C : Type 0} (b : Bool) (c : C) (o : Option C) → is_some o ≡ true → is_some (cond b (Some c) o) ≡ true
some_still true c o there = refl
some_still false c o there = there

still_with : (es : List (Key × Content)) (pending : FinMap key_cmp Content) (q : Key) → contains_key pending q ≡ true → contains_key (with_events pending es) q ≡ true
still_with [] pending q here = here
still_with (e ∷ es) pending q here =
    still_with es (insert pending e.0 e.1) q (ap is_some (get-insert key_total pending e.0 e.1 q) ∙ some_still (eq_by_cmp key_cmp q e.0) e.1 (get pending q) here)

still_there : (w : World Process Content) (k q : Key) (o : Option (Outcome Process Content Row)) → k ≢ q → IsPending w q → IsPending (settled w k o) q
still_there w k q None other here = ap is_some (get-removed w.pending k q other) ∙ here
still_there w k q (Some o) other here = still_with o.events (remove w.pending k) q (ap is_some (get-removed w.pending k q other) ∙ here)

pub waits_after : (end : ℕ) (w : World Process Content) (k : Key) (o : Option (Outcome Process Content Row)) (waiting : List Key) → AllByRecursion (λ q. q.to ≢ k.to) waiting → AllByRecursion (Waits end w) waiting
    → AllByRecursion (Waits end (settled w k o)) waiting
waits_after end w k o [] free wait = tt
waits_after end w k o (q ∷ waiting) free wait =
    ((still_there w k q o (λ same. free.0 (ap (λ (r : Key). r.to) (sym same))) wait.0.0, wait.0.1), waits_after end w k o waiting free.1 wait.1)

-- ---- and so a turn leaves a drive on its way

module _ (s : Setup) (sound : IsSound s) (old new : Held) (k : Key) (content : Content) (actions : List Action) (are : AreSoundActions s k.to actions) (way : IsOnWay s old) (here : IsPending (world_of old) k)
    (settles : Settles s k content actions old new) (waiting : List Key) (left : new.waiting.keys.items ≡ waiting) (places : length new.waiting.busy.items ≡ length old.waiting.busy.items)
    (free : AllByRecursion (λ q. q.to ≢ k.to) waiting) (wait : AllByRecursion (Waits s.end (world_of old)) waiting) where
  pub way_settled : IsOnWay s new
  way_settled = record {
    people = subst (IsPeopled s) (sym settles.world) (people_after s sound k content actions are (way.people.receivers k here) (world_of old) way.people);
    places = places ∙ way.places;
    waits =
        subst (AllByRecursion (Waits s.end (world_of new))) (sym left)
        (subst (λ w. AllByRecursion (Waits s.end w) waiting) (sym settles.world) (waits_after s.end (world_of old) k (outcome_by s actions (world_of old) k content) waiting free wait));
  }

pub way_asked : (s : Setup) (old new : Held) (k : Key) → IsOnWay s old → IsPending (world_of old) k → k.at ≤ s.end → world_of new ≡ world_of old → new.waiting.keys.items ≡ old.waiting.keys.items ++ k ∷ []
    → length new.waiting.busy.items ≡ length old.waiting.busy.items → IsOnWay s new
way_asked s old new k way here in_time world waiting places = record {
  people = subst (IsPeopled s) (sym world) way.people;
  places = places ∙ way.places;
  waits =
      subst (AllByRecursion (Waits s.end (world_of new))) (sym waiting)
      (subst (λ w. AllByRecursion (Waits s.end w) (old.waiting.keys.items ++ k ∷ [])) (sym world)
      (all_append (Waits s.end (world_of old)) old.waiting.keys.items (k ∷ []) way.waits ((here, in_time), tt)));
}
