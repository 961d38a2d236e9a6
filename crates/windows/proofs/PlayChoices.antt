-- A choice of a member in a cluster to which choices have led.
use Rattle.std.proofs.Common.{◌≡◌, ◌++◌, ℕ, ◌+◌, ◌≤◌, Bool, true, false, cond, List, [], ◌∷◌, length, Option, Some, None, append-nil, length-append, ap, ◌∙◌, sym, subst, refl, inl, inr, arith}
use Rattle.std.specs.Option.{option_map}
use Rattle.std.specs.List.{AllByRecursion}
use Rattle.std.specs.FinMap.{get, contains_key, remove, get-insert}
use Rattle.std.specs.Ordering.{is_eq}
use Rattle.std.specs.Cmp.{nat_cmp_total, tied_itself}
use Rattle.std.proofs.lemmas.List.Elements.{recursion_from_All}
use Rattle.base.specs.declared.key.Key.{Key}
use Rattle.base.specs.World.{Outcome, with_events, settled, rows_of, events_of}
use Rattle.base.specs.Rising.{AreNew}
use Rattle.base.proofs.Rising.{all_weaker, new_step}
use Rattle.scenario.specs.Setup.{Setup, IsSound, member_count}
use Rattle.links.specs.declared.table.Links.{Links}
use Rattle.links.specs.Arrival.{AreLinksOf}
use Rattle.trace.specs.declared.row.Row.{Row}
use Rattle.member.specs.declared.event_kind.EventKind.{EventKind}
use Rattle.member.specs.declared.event.Event.{Event}
use Rattle.member.specs.declared.event.Effects.{Effects}
use Rattle.member.specs.Here.{IsSoundSetting, HoldsMembers, MentionsMembers}
use Rattle.member.specs.Opening.{opening}
use Rattle.member.specs.State.{State}
use Rattle.member.specs.Step.{step}
use Rattle.member.proofs.Fair.{steps_numbered}
use Rattle.member_laws.specs.Words.{IsAmongMembers}
use Rattle.member_laws.specs.Runs.{Cluster, IsSoundCluster, CounterOverflows}
use Rattle.member_laws.proofs.Reached.{step_among}
use Rattle.windows.specs.Safe.{IsSafe}
use Rattle.windows.specs.Cluster.{IsLeastDelay, SafeStep}
use Rattle.windows.specs.Parts.{for_own}
use Rattle.windows.specs.Window.{is_own}
use Rattle.windows.specs.Handling.{HandlesTaken, OverflowsReceiver, made_of, members_after}
use Rattle.windows.specs.Play.{NonePasses, Chooses, Plays}
use Rattle.windows.specs.Choosing.{IsPlayed, HasChosen, HasPlayed}
use Rattle.windows.proofs.Consistent.{event_here, holds_members}
use Rattle.windows.proofs.Plays.{one_chosen_more}
use Rattle.windows.proofs.Playing.{sound_there, numbered_there, peopled_there, overflow_there}

-- where all are for own members, all stay
kept_own : {C : Type 0} (owns : ℕ → Bool) (e : Key × C) (es : List (Key × C)) (b : Bool) → b ≡ true → for_own owns es ≡ es → cond b (e ∷ for_own owns es) (for_own owns es) ≡ e ∷ es
kept_own owns e es true own rest = ap (λ l. e ∷ l) rest
kept_own owns e es false own rest = cc

all_own : {C : Type 0} (owns : ℕ → Bool) (es : List (Key × C)) → AllByRecursion (λ e. owns e.0.to ≡ true) es → for_own owns es ≡ es
all_own owns [] all = refl
all_own owns (e ∷ es) all = kept_own owns e es (owns e.0.to) all.0 (all_own owns es all.1)

-- nobody's event was handled
pub none_handled : (s : Setup) (d : Option ℕ) (m : ℕ) (w v : Cluster) (rows : List Row) → NonePasses (IsSafe s.end d) w m → v ≡ w → HasChosen s d m false w v rows rows
none_handled s d m w v rows none same = record { keys = []; made = []; chosen = inr (none, same, refl, refl); counted = refl; rows = sym (append-nil rows) }

module _ (s : Setup) (sound : IsSound s) (d : Option ℕ) (least : IsLeastDelay s d) (w : Cluster) (played : IsPlayed s d w) (event : Event) (here : get w.pending event.key ≡ Some event.content)
    (safe : IsSafe s.end d w event.key) where
  fact : IsSoundCluster s w
  fact = sound_there s d played.0 played.1 played.2 w sound least played.3

  among : IsAmongMembers s event.key event.content
  among = fact.events event.key event.content here

  -- the event may be handled
  pub handled_here : (l : Links) → AreLinksOf l s → IsSoundSetting s l event.key
  handled_here l links = let low = safe.in_time in event_here s l (s.end + 1) event.key event.content sound links (omega arith) (omega arith) among

  pub holds_there : (t : State) → get w.members event.key.to ≡ Some t → HoldsMembers s event.key.to t
  holds_there t at = holds_members s event.key.to t (fact.states event.key.to t at)

  pub names_there : MentionsMembers (member_count s) event.content
  names_there = among.names

  -- what is made of it is new
  pub new_there : AreNew (remove w.pending event.key) (events_of (made_of s w.members event))
  new_there = new_step (λ (t : State). t.next_number) (step s) (steps_numbered s sound) w event.key event.content (numbered_there s d played.0 played.1 played.2 w sound least played.3)

  -- and is for members that are there
  made_own : (o : Option State) → get w.members event.key.to ≡ o → AllByRecursion (λ e. contains_key w.members e.0.to ≡ true) (events_of (option_map (step s event.key event.content) o))
  made_own None none = tt
  made_own (Some t) at =
      all_weaker _ (λ e. contains_key w.members e.0.to ≡ true) (λ e is. peopled_there s d played.0 played.1 played.2 w sound least played.3 e.0.to is.receiver) (step s event.key event.content t).events
      (recursion_from_All (λ (e : Key × EventKind). IsAmongMembers s e.0 e.1) (step s event.key event.content t).events (step_among s event.key event.content t sound among (fact.states event.key.to t at)))

  settled_by : (o : Option (Outcome State EventKind Row)) (v : Cluster) → v.members ≡ members_after w.members event o → v.pending ≡ with_events (remove w.pending event.key) (events_of o) → v ≡ settled w event.key o
  settled_by None v members pending = λ i. record { members = members i; pending = pending i }
  settled_by (Some o) v members pending = λ i. record { members = members i; pending = pending i }

  -- a part that owns everybody is then as after a step of the cluster
  stepped : (v : Cluster) → v.members ≡ members_after w.members event (made_of s w.members event)
      → v.pending ≡ with_events (remove w.pending event.key) (for_own (is_own w) (events_of (made_of s w.members event)))
      → SafeStep s d w event.key v (rows_of (made_of s w.members event))
  stepped v members pending = record {
    content = event.content;
    here = here;
    passes = safe;
    world = settled_by (made_of s w.members event) v members (pending ∙ ap (with_events (remove w.pending event.key)) (all_own (is_own w) (events_of (made_of s w.members event)) (made_own (get w.members event.key.to) refl)));
    made = refl;
  }

  pub one_handled : (m : ℕ) (v : Cluster) (before after : List Row) → event.key.to ≡ m → v.members ≡ members_after w.members event (made_of s w.members event)
      → v.pending ≡ with_events (remove w.pending event.key) (for_own (is_own w) (events_of (made_of s w.members event)))
      → after ≡ before ++ rows_of (made_of s w.members event) → HasChosen s d m true w v before after
  one_handled m v before after own members pending rows = record {
    keys = event.key ∷ [];
    made = rows_of (made_of s w.members event);
    chosen = inl (event.key, own, stepped v members pending, refl);
    counted = refl;
    rows = rows;
  }

  -- a counter that has no room there has none in the run
  pub event_wears_out : OverflowsReceiver s event w.members → CounterOverflows s
  event_wears_out wears =
      let o : Outcome State EventKind Row = step s event.key event.content wears.member in
      let made : made_of s w.members event ≡ Some o = ap (option_map (step s event.key event.content)) wears.there in
      let v : Cluster = settled w event.key (made_of s w.members event) in
      let one : SafeStep s d w event.key v (rows_of (made_of s w.members event)) = record { content = event.content; here = here; passes = safe; world = refl; made = refl } in
      let choice : Chooses (step s) (IsSafe s.end d) w event.key.to (event.key ∷ []) (rows_of (made_of s w.members event)) v = inl (event.key, refl, one, refl) in
      let all = one_chosen_more (step s) (IsSafe s.end d) played.0 event.key.to (opening s) w v played.1 (event.key ∷ []) played.2 (rows_of (made_of s w.members event)) played.3 choice in
      let there : get v.members event.key.to ≡ Some o.state =
      ap (λ m. get (settled w event.key m).members event.key.to) made ∙ get-insert nat_cmp_total w.members event.key.to o.state event.key.to
      ∙ ap (λ r. cond (is_eq r) (Some o.state) (get w.members event.key.to)) (tied_itself nat_cmp_total event.key.to) in
      overflow_there s d _ _ _ v sound least all event.key.to o.state (record { keys = []; rows = []; world = v; run = (refl, refl); there = there }) wears.overflow

  -- ---- the event was taken out first

  module _ (p : Cluster) (members : p.members ≡ w.members) (pending : p.pending ≡ remove w.pending event.key) where
    pub holds_taken : (t : State) → get p.members event.key.to ≡ Some t → HoldsMembers s event.key.to t
    holds_taken t at = holds_there t (ap (λ m. get m event.key.to) (sym members) ∙ at)

    pub new_taken : AreNew p.pending (events_of (made_of s p.members event))
    new_taken = subst (λ m. AreNew p.pending (events_of (made_of s m event))) (sym members) (subst (λ m. AreNew m (events_of (made_of s w.members event))) (sym pending) new_there)

    pub taken_wears_out : OverflowsReceiver s event p.members → CounterOverflows s
    taken_wears_out wears = event_wears_out (subst (OverflowsReceiver s event) members wears)

    pub taken_handled_here : (m : ℕ) (v : Cluster) (before after : Effects) → event.key.to ≡ m → HandlesTaken s event p v before after → HasChosen s d m true w v before.rows.items after.rows.items
    taken_handled_here m v before after own handles =
        let taken : Cluster = record { members = w.members; pending = remove w.pending event.key } in
        let same : p ≡ taken = λ i. record { members = members i; pending = pending i } in
        let there = subst (λ u. HandlesTaken s event u v before after) same handles in
        one_handled m v before.rows.items after.rows.items own there.members there.pending there.rows

-- ---- choices so far

pub at_most_one : (went : Bool) → cond went 1 0 ≤ 1
at_most_one true = omega arith
at_most_one false = omega arith

-- before the first choice
pub none_played : (s : Setup) (d : Option ℕ) (w : Cluster) (rows : List Row) → w ≡ opening s → rows ≡ [] → HasPlayed s d [] 0 rows w
none_played s d w rows opened none = record { keys = []; plays = (opened, refl, none); counted = refl }

count_more : (n m more : ℕ) (went : Bool) → n ≡ m → more ≡ cond went 1 0 → n + cond went 1 0 ≡ m + more
count_more n m more went counted one = omega (arith, counted, one)

-- one choice more
pub one_played_more : (s : Setup) (d : Option ℕ) (choices : List ℕ) (m handled : ℕ) (went : Bool) (rows after : List Row) (w v : Cluster) → HasPlayed s d choices handled rows w → HasChosen s d m went w v rows after
    → HasPlayed s d (choices ++ m ∷ []) (handled + cond went 1 0) after v
one_played_more s d choices m handled went rows after w v so_far chosen = record {
  keys = so_far.keys ++ chosen.keys;
  plays =
      subst (λ l. Plays s d (opening s) (choices ++ m ∷ []) (so_far.keys ++ chosen.keys) l v) (sym chosen.rows)
      (one_chosen_more (step s) (IsSafe s.end d) choices m (opening s) w v so_far.keys chosen.keys rows chosen.made so_far.plays chosen.chosen);
  counted = count_more handled (length so_far.keys) (length chosen.keys) went so_far.counted chosen.counted ∙ sym (length-append so_far.keys chosen.keys);
}

-- choices have led there
pub played_there : (s : Setup) (d : Option ℕ) (choices : List ℕ) (handled : ℕ) (rows : List Row) (w : Cluster) → HasPlayed s d choices handled rows w → IsPlayed s d w
played_there s d choices handled rows w so_far = (choices, so_far.keys, rows, so_far.plays)
