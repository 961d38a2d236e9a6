-- The member's step as a machine that the laws of safe steps speak of, and the laws of its clusters.
use Rattle.std.proofs.Common.{◌≡◌, ℕ, ◌+◌, ◌<◌, ◌≤◌, Bool, true, List, [], ◌++◌, Option, Some, None, All, subst, refl, arith}
use Rattle.std.specs.Option.{IfSome, is_some, option_map}
use Rattle.std.specs.List.{AllByRecursion}
use Rattle.std.specs.List.Sorted.{IsPermutation, IsSorted}
use Rattle.std.specs.FinMap.{get, remove}
use Rattle.std.specs.declared.cmp.Ordering.{Ordering}
use Rattle.std.proofs.lemmas.Bool.{false≢true}
use Rattle.std.proofs.lemmas.List.Elements.{recursion_from_All, All-from_recursion}
use Rattle.base.specs.declared.key.Key.{Key}
use Rattle.base.specs.World.{IsPending, IsOver, Run, settled, outcome, events_of}
use Rattle.base.specs.Rising.{AreNew}
use Rattle.base.proofs.Rising.{all_weaker}
use Rattle.scenario.specs.Setup.{Setup, IsSound, member_count}
use Rattle.trace.specs.declared.row.Row.{Row}
use Rattle.member.specs.declared.event_kind.EventKind.{EventKind}
use Rattle.member.specs.State.{State}
use Rattle.member.specs.Opening.{opening}
use Rattle.member.specs.Places.{place_of}
use Rattle.member.specs.Step.{step}
use Rattle.member.proofs.Fair.{fair_step, steps_later, steps_linked, steps_counted, steps_numbered}
use Rattle.member_laws.specs.Words.{IsConsistent, IsAmongMembers}
use Rattle.member_laws.specs.Runs.{Cluster, IsSoundCluster}
use Rattle.member_laws.proofs.Consistency.{step_consistent}
use Rattle.member_laws.proofs.Reached.{step_among, consistent_reached, pending_among}
use Rattle.member_laws.proofs.Runs.{kept_after}
use Rattle.windows.specs.Delays.{SendsAsItself, KeepsDelays, ComesFar, KeepsFar, IsNoMore}
use Rattle.windows.specs.Schedule.{Schedule, CatchesUp, MeetsState, rows_by}
use Rattle.windows.specs.Parts.{Window, IsCommonBound, AreWindowsOfDifferentParts, StandsAfter, IncludesPart, PartRun, for_own, is_in, part_of, all_out, all_keys, all_rows}
use Rattle.windows.specs.Cluster.{UsesUpTo, link_delay, IsLeastDelay, SafeStep, SafeSchedule, IsRunFrom, IsRowOrder, IsWhole, whose}
use Rattle.windows.proofs.Far.{far_made}
use Rattle.windows.proofs.Numbers.{numbered_schedule}
use Rattle.windows.proofs.Outs.{out_late, run_is_schedule}
use Rattle.windows.proofs.Exchanged.{all_new}
use Rattle.windows.proofs.Released.{tells_receiver}
use Rattle.windows.proofs.Division.{stands_once}
use Rattle.windows.proofs.Schedules.{safe_early, schedule_kept, safe_keys, safe_rows, safe_rows_by, safe_released, safe_trace, safe_met, part_met, part_new, windows_lead, windows_released}

module _ (s : Setup) (sound : IsSound s) where
  pub sends_as_itself : SendsAsItself (step s)
  sends_as_itself k c t = all_weaker _ (λ e. e.0.from ≡ k.to) (λ e made. made.0) (step s k c t).events (fair_step s sound k c t).made

  pub keeps_delays : KeepsDelays (link_delay s) (step s)
  keeps_delays = record { later = steps_later s sound; own = sends_as_itself; delayed = steps_linked s sound }

  step_keeps : (k : Key) (c : EventKind) (t : State) → k.at ≤ s.end → IsAmongMembers s k c → IsConsistent s k.to t
      → IsConsistent s k.to (step s k c t).state × AllByRecursion (λ e. IsAmongMembers s e.0 e.1) (step s k c t).events
  step_keeps k c t in_time among h =
      (step_consistent s k c t sound among h, recursion_from_All (λ (e : Key × EventKind). IsAmongMembers s e.0 e.1) (step s k c t).events (step_among s k c t sound among h))

  -- the run begins in a sound cluster
  pub sound_opening : IsSoundCluster s (opening s)
  sound_opening = record {
    states = λ m t here. consistent_reached s sound (opening s) m t ([], [], (refl, refl)) here;
    events = λ k c here. pending_among s sound (opening s) k c ([], [], (refl, refl)) here;
  }

  no_more : (least_delay : Option ℕ) → IsLeastDelay s least_delay → IsNoMore (λ m. m < member_count s) (link_delay s) least_delay
  no_more None alone = λ i j i_low j_low. omega (arith, alone)
  no_more (Some d) is = λ i j i_low j_low other. is.1 i j (record { sender = i_low; receiver = j_low; different = other })

  far_from : (least_delay : Option ℕ) → IsLeastDelay s least_delay → (k : Key) (c : EventKind) (o : Option State) → IsAmongMembers s k c → ((t : State) → o ≡ Some t → IsConsistent s k.to t)
      → AllByRecursion (λ e. ComesFar least_delay k e.0) (events_of (option_map (step s k c) o))
  far_from least_delay least k c None among h = tt
  far_from least_delay least k c (Some t) among h =
      let made = recursion_from_All (λ (e : Key × EventKind). IsAmongMembers s e.0 e.1) (step s k c t).events (step_among s k c t sound among (h t refl)) in
      far_made (λ m. m < member_count s) (link_delay s) (step s) keeps_delays least_delay (no_more least_delay least) k c t among.receiver
      (all_weaker _ (λ e. e.0.to < member_count s) (λ e is. is.receiver) (step s k c t).events made)

  -- a sound cluster stays so
  pub sound_stays : (w : Cluster) (k : Key) (c : EventKind) → IsSoundCluster s w → get w.pending k ≡ Some c → k.at ≤ s.end → IsSoundCluster s (settled w k (outcome (step s) w k c))
  sound_stays w k c fact here in_time =
      let kept = kept_after (step s) (IsConsistent s) (IsAmongMembers s) s.end step_keeps w k c (get w.members k.to) refl in_time (fact.events k c here)
      (record { members = fact.states; events = fact.events }) in
      record { states = kept.members; events = kept.events }

  -- and what its members make for each other comes far
  pub sound_keeps : (least_delay : Option ℕ) → IsLeastDelay s least_delay → KeepsFar s.end least_delay (IsSoundCluster s) (step s)
  sound_keeps least_delay least = record {
    stays = sound_stays;
    far = λ w k c fact here in_time. far_from least_delay least k c (get w.members k.to) (fact.events k c here) (λ t is. fact.states k.to t is);
  }

-- ---- the laws

pub early_here : (s : Setup) (least_delay : Option ℕ) (w v : Cluster) (k : Key) (made : List Row) → IsSound s → IsLeastDelay s least_delay → IsSoundCluster s w → SafeStep s least_delay w k v made
    → CatchesUp (step s) s.end w v k made
early_here s d w v k made sound least fact is = safe_early (step s) (steps_later s sound) (sends_as_itself s sound) s.end d (IsSoundCluster s) (sound_keeps s sound d least) w v k made fact is

pub sound_after : (s : Setup) (least_delay : Option ℕ) (w v : Cluster) (keys : List Key) (rows : List Row) → IsSound s → IsLeastDelay s least_delay → IsSoundCluster s w
    → SafeSchedule s least_delay w keys rows v → IsSoundCluster s v
sound_after s d w v keys rows sound least fact is =
    (schedule_kept (step s) (steps_later s sound) (sends_as_itself s sound) s.end d (IsSoundCluster s) (sound_keeps s sound d least) keys w v rows fact is).1

module _ (s : Setup) (d : Option ℕ) (w v : Cluster) (keys run_keys left_keys : List Key) (rows run left : List Row) (sound : IsSound s) (least : IsLeastDelay s d)
    (fact : IsSoundCluster s w) (is : SafeSchedule s d w keys rows v) (whole : IsRunFrom s w run_keys run) (rest : IsRunFrom s v left_keys left) where
  pub keys_here : IsPermutation (keys ++ left_keys) run_keys
  keys_here =
      safe_keys (step s) (steps_later s sound) (sends_as_itself s sound) s.end d (IsSoundCluster s) (sound_keeps s sound d least) w v keys run_keys left_keys rows run left fact is whole rest

  pub rows_here : IsPermutation (rows ++ left) run
  rows_here =
      safe_rows (step s) (steps_later s sound) (sends_as_itself s sound) s.end d (IsSoundCluster s) (sound_keeps s sound d least) w v keys run_keys left_keys rows run left fact is whole rest

  pub rows_by_here : (m : ℕ) → rows_by whose m run ≡ rows_by whose m rows ++ rows_by whose m left
  rows_by_here =
      safe_rows_by (step s) (steps_later s sound) (sends_as_itself s sound) s.end d (IsSoundCluster s) (sound_keeps s sound d least) w v keys run_keys left_keys rows run left fact is whole rest
      whose (tells_receiver (step s) (steps_later s sound) place_of (steps_counted s sound))

pub run_sorted : (s : Setup) (least_delay : Option ℕ) (w v : Cluster) (keys run_keys : List Key) (rows sorted run : List Row) (cmp : Row → Row → Ordering) → IsSound s → IsLeastDelay s least_delay
    → IsSoundCluster s w → IsRowOrder cmp → SafeSchedule s least_delay w keys rows v → IsOver s.end v → IsRunFrom s w run_keys run → IsPermutation rows sorted → IsSorted cmp sorted → run ≡ sorted
run_sorted s d w v keys run_keys rows sorted run cmp sound least fact order is over whole items up =
    safe_trace (step s) (steps_later s sound) (sends_as_itself s sound) s.end d (IsSoundCluster s) (sound_keeps s sound d least)
    place_of (steps_counted s sound) cmp order.total order.agrees keys run_keys w v rows sorted run fact is over whole items up

pub met_here : (s : Setup) (least_delay : Option ℕ) (w v : Cluster) (keys : List Key) (rows : List Row) (m : ℕ) (t : State) → IsSound s → IsLeastDelay s least_delay → IsSoundCluster s w
    → SafeSchedule s least_delay w keys rows v → MeetsState (step s) s.end v m t → MeetsState (step s) s.end w m t
met_here s d w v keys rows m t sound least fact is met =
    safe_met (step s) (steps_later s sound) (sends_as_itself s sound) s.end d (IsSoundCluster s) (sound_keeps s sound d least) w v keys rows m t fact is met

pub met_in_part : (s : Setup) (least_delay : Option ℕ) (division : ℕ → ℕ) (part bound : ℕ) (w after : Cluster) (keys : List Key) (out : List (Key × EventKind)) (rows : List Row) (m : ℕ) (t : State)
    → IsSound s → IsLeastDelay s least_delay → IsSoundCluster s w → IsCommonBound s.end least_delay w bound
    → PartRun (step s) (is_in division part) bound (part_of (is_in division part) w) keys out rows after → get after.members m ≡ Some t → MeetsState (step s) s.end w m t
met_in_part s d division part bound w after keys out rows m t sound least fact common run there =
    part_met (step s) (steps_later s sound) (sends_as_itself s sound) s.end d (IsSoundCluster s) (sound_keeps s sound d least) division part bound w after keys out rows m t (fact, common) run there

-- a test says nothing of numbers: whatever schedule it is, each event that pends has one that its sender has used
pub numbered_by : (s : Setup) (Test : Cluster → Key → Type 0) (w v : Cluster) (keys : List Key) (rows : List Row) → IsSound s → UsesUpTo w → Schedule (step s) Test w keys rows v → UsesUpTo v
numbered_by s Test w v keys rows sound numbered is = numbered_schedule (λ (t : State). t.next_number) (step s) (steps_numbered s sound) Test keys w v rows numbered is

pub new_here : (s : Setup) (least_delay : Option ℕ) (division : ℕ → ℕ) (part bound : ℕ) (w p : Cluster) (keys : List Key) (out : List (Key × EventKind)) (rows : List Row) (k : Key) (c : EventKind)
    → IsSound s → IsLeastDelay s least_delay → IsSoundCluster s w → UsesUpTo w → IsCommonBound s.end least_delay w bound
    → PartRun (step s) (is_in division part) bound (part_of (is_in division part) w) keys out rows p → get p.pending k ≡ Some c
    → AreNew (remove p.pending k) (for_own (is_in division part) (events_of (outcome (step s) p k c)))
new_here s d division part bound w p keys out rows k c sound least fact numbered common run here =
    part_new (step s) (steps_later s sound) (sends_as_itself s sound) s.end d (IsSoundCluster s) (sound_keeps s sound d least)
    (λ (t : State). t.next_number) (steps_numbered s sound) division part bound w p keys out rows k c (fact, common) numbered run here

pub sent_new : (s : Setup) (division bounds : ℕ → ℕ) (w : Cluster) (windows : List (Window State EventKind Row)) → IsSound s → UsesUpTo w → AreWindowsOfDifferentParts (step s) division bounds w windows
    → All (λ (d : Window State EventKind Row). AreNew d.after.pending (for_own (is_in division d.part) (all_out windows))) windows
sent_new s division bounds w windows sound numbered are =
    All-from_recursion (λ (d : Window State EventKind Row). AreNew d.after.pending (for_own (is_in division d.part) (all_out windows))) windows
    (all_new (link_delay s) (step s) (keeps_delays s sound) (λ (t : State). t.next_number) (steps_numbered s sound) division bounds w numbered windows are)

pub sent_late : (s : Setup) (owns : ℕ → Bool) (bound from : ℕ) (p after : Cluster) (keys : List Key) (out : List (Key × EventKind)) (rows : List Row) → IsSound s
    → ((q : Key) → IsPending p q → (owns q.to ≡ true) × (from ≤ q.at)) → PartRun (step s) owns bound p keys out rows after
    → All (λ (e : Key × EventKind). from + link_delay s e.0.from e.0.to ≤ e.0.at) out
sent_late s owns bound from p after keys out rows sound all run =
    All-from_recursion (λ (e : Key × EventKind). from + link_delay s e.0.from e.0.to ≤ e.0.at) out (out_late (link_delay s) (step s) (keeps_delays s sound) owns bound from keys p after out rows all run)

pub some_delay : (s : Setup) → IsSound s → (least_delay : Option ℕ) → IsLeastDelay s least_delay → IfSome least_delay (λ d. 0 < d)
some_delay s sound None alone = tt
some_delay s sound (Some d) is = let link = (sound.between is.0.0 is.0.1).delay.0 in subst (λ n. 0 < n) is.0.3 link

pub run_here : (s : Setup) (least_delay : Option ℕ) (w v : Cluster) (keys : List Key) (rows : List Row) → IsSound s → IsLeastDelay s least_delay → Run (step s) s.end w keys rows v
    → SafeSchedule s least_delay w keys rows v
run_here s d w v keys rows sound least run = run_is_schedule (step s) s.end d (some_delay s sound d least) keys w v rows run

pub next_rows : (s : Setup) (least_delay : Option ℕ) (bound : ℕ) (w v : Cluster) (keys run_keys left_keys : List Key) (rows sorted run left : List Row) (cmp : Row → Row → Ordering)
    → IsSound s → IsLeastDelay s least_delay → IsSoundCluster s w → IsRowOrder cmp → SafeSchedule s least_delay w keys rows v → All (λ (k : Key). k.at < bound) keys
    → ((q : Key) → IsPending v q → bound ≤ q.at) → IsRunFrom s w run_keys run → IsRunFrom s v left_keys left → IsPermutation rows sorted → IsSorted cmp sorted → run ≡ sorted ++ left
next_rows s d bound w v keys run_keys left_keys rows sorted run left cmp sound least fact order is below from whole rest items up =
    safe_released (step s) (steps_later s sound) (sends_as_itself s sound) s.end d (IsSoundCluster s) (sound_keeps s sound d least) w v keys run_keys left_keys rows run left fact is whole rest
    place_of (steps_counted s sound) cmp order.total order.agrees bound sorted (recursion_from_All (λ (k : Key). k.at < bound) keys below) from items up

module _ (s : Setup) (d : Option ℕ) (division : ℕ → ℕ) (bound : ℕ) (w : Cluster) (windows : List (Window State EventKind Row)) (sound : IsSound s) (least : IsLeastDelay s d)
    (fact : IsSoundCluster s w) (common : IsCommonBound s.end d w bound) (are : AreWindowsOfDifferentParts (step s) division (λ part. bound) w windows) where
  lead : (v : Cluster) × SafeSchedule s d w (all_keys windows) (all_rows windows) v × StandsAfter division w windows v × IsSoundCluster s v
      × ((q : Key) → IsPending v q → IncludesPart windows (division q.to) → bound ≤ q.at)
  lead = windows_lead (step s) (steps_later s sound) (sends_as_itself s sound) s.end d (IsSoundCluster s) (sound_keeps s sound d least) division bound w windows (fact, common) are

  pub windows_here : (v : Cluster) × SafeSchedule s d w (all_keys windows) (all_rows windows) v × StandsAfter division w windows v
  windows_here = (lead.0, lead.1, lead.2)

-- the receiver of an event that pends in a sound cluster is a member
pub receiver_low : (s : Setup) (v : Cluster) (q : Key) (o : Option EventKind) → IsSoundCluster s v → get v.pending q ≡ o → is_some o ≡ true → q.to < member_count s
receiver_low s v q None fact is here = absurd (false≢true here)
receiver_low s v q (Some c) fact is here = (fact.events q c is).receiver

module _ (s : Setup) (d : Option ℕ) (division : ℕ → ℕ) (bound : ℕ) (w v : Cluster) (windows : List (Window State EventKind Row)) (sound : IsSound s) (least : IsLeastDelay s d)
    (fact : IsSoundCluster s w) (common : IsCommonBound s.end d w bound) (are : AreWindowsOfDifferentParts (step s) division (λ part. bound) w windows) (parts : IsWhole s division windows)
    (stands : StandsAfter division w windows v) where
  sound_there : IsSoundCluster s v
  sound_there =
      let led = lead s d division bound w windows sound least fact common are in
      subst (IsSoundCluster s) (stands_once division w led.0 v windows led.2 stands) led.3

  has_window : (q : Key) → IsPending v q → IncludesPart windows (division q.to)
  has_window q here = parts q.to (receiver_low s v q (get v.pending q) sound_there refl here)

  pub none_left_here : (q : Key) → IsPending v q → bound ≤ q.at
  none_left_here q here =
      let led = lead s d division bound w windows sound least fact common are in
      let same = stands_once division w led.0 v windows led.2 stands in
      subst (λ u. (r : Key) → IsPending u r → IncludesPart windows (division r.to) → bound ≤ r.at) same led.4 q here (has_window q here)

pub windows_rows : (s : Setup) (least_delay : Option ℕ) (division : ℕ → ℕ) (bound : ℕ) (w v : Cluster) (windows : List (Window State EventKind Row)) (run_keys left_keys : List Key)
    (sorted run left : List Row) (cmp : Row → Row → Ordering) → IsSound s → IsLeastDelay s least_delay → IsSoundCluster s w → IsRowOrder cmp → IsCommonBound s.end least_delay w bound
    → AreWindowsOfDifferentParts (step s) division (λ part. bound) w windows → IsWhole s division windows → StandsAfter division w windows v → IsRunFrom s w run_keys run → IsRunFrom s v left_keys left
    → IsPermutation (all_rows windows) sorted → IsSorted cmp sorted → run ≡ sorted ++ left
windows_rows s d division bound w v windows run_keys left_keys sorted run left cmp sound least fact order common are parts stands whole rest items up =
    windows_released (step s) (steps_later s sound) (sends_as_itself s sound) s.end d (IsSoundCluster s) (sound_keeps s sound d least) place_of (steps_counted s sound) cmp order.total order.agrees
    division bound w v windows run_keys left_keys run left sorted (fact, common) are stands (has_window s d division bound w v windows sound least fact common are parts stands) whole rest items up
