-- A scenario's parts may run to their horizons.
use Rattle.std.proofs.Common.{◌≡◌, ◌≢◌, ℕ, ◌+◌, ◌<◌, ◌≤◌, List, ◌++◌, Option, Some, None, ap, sym, subst, refl, arith}
use Rattle.std.specs.Option.{option_map}
use Rattle.std.specs.List.{AllByRecursion}
use Rattle.std.specs.List.Sorted.{IsPermutation}
use Rattle.std.specs.FinMap.{get}
use Rattle.std.proofs.lemmas.List.Elements.{recursion_from_All}
use Rattle.base.specs.declared.key.Key.{Key}
use Rattle.base.specs.World.{IsPending, events_of}
use Rattle.base.proofs.Rising.{all_weaker}
use Rattle.scenario.specs.Setup.{Setup, IsSound, member_count}
use Rattle.trace.specs.declared.row.Row.{Row}
use Rattle.member.specs.declared.event_kind.EventKind.{EventKind}
use Rattle.member.specs.State.{State}
use Rattle.member.specs.Step.{step}
use Rattle.member.specs.Places.{place_of}
use Rattle.member.proofs.Fair.{steps_later, steps_linked, steps_counted}
use Rattle.member_laws.specs.Words.{IsConsistent, IsAmongMembers}
use Rattle.member_laws.specs.Runs.{Cluster, IsSoundCluster}
use Rattle.member_laws.proofs.Reached.{step_among}
use Rattle.windows.specs.Schedule.{TestedStep, Schedule, CatchesUp, OffersEarly, MeetsState, rows_by}
use Rattle.windows.specs.Horizon.{AreHorizons, KeepsBetween, IsClearIn}
use Rattle.windows.specs.Parts.{Window, AreWindowsOfDifferentParts, StandsAfter, IncludesPart, PartRun, is_in, part_of, all_keys, all_rows}
use Rattle.windows.specs.Cluster.{link_delay, IsRunFrom, IsPeopled, LiesBetween, IsClearOf, whose}
use Rattle.windows.proofs.Far.{all_both}
use Rattle.windows.proofs.Early.{early_step}
use Rattle.windows.proofs.Clear.{clear_offers, horizons_offer}
use Rattle.windows.proofs.Division.{after_all, all_schedule, ready_after, stands_after, none_left, stands_once}
use Rattle.windows.proofs.States.{met_by_schedule}
use Rattle.windows.proofs.Released.{tells_receiver}
use Rattle.windows.proofs.Schedules.{weaker_step, weaker_schedule, with_fact, rows_by_schedule, each_by_schedule, met_by_part}
use Rattle.windows.proofs.Members.{sends_as_itself, sound_stays, receiver_low}

module _ (s : Setup) (sound : IsSound s) (division : ℕ → ℕ) (between : ℕ → ℕ → ℕ) (lies : LiesBetween s division between) where
  abbrev Comes : Key → Key → Type 0
  Comes k e = IsPeopled s division (division e.to) × (division e.to ≢ division k.to → k.at + between (division k.to) (division e.to) ≤ e.at)

  comes : (k e : Key) → k.to < member_count s → e.to < member_count s → (e.to ≢ k.to → k.at + link_delay s k.to e.to ≤ e.at) → Comes k e
  comes k e here there delayed = (
    (e.to, there, refl),
    λ other.
        let late = delayed (λ same. other (ap division same)) in
        let least = lies k.to e.to here there (λ same. other (sym same)) in
        omega arith,
  )

  made_comes : (k : Key) (c : EventKind) (o : Option State) → IsAmongMembers s k c → ((t : State) → o ≡ Some t → IsConsistent s k.to t) → AllByRecursion (λ e. Comes k e.0) (events_of (option_map (step s k c) o))
  made_comes k c None among h = tt
  made_comes k c (Some t) among h =
      all_weaker _ (λ e. Comes k e.0) (λ e is. comes k e.0 among.receiver is.0.receiver is.1) (step s k c t).events
      (all_both (λ e. IsAmongMembers s e.0 e.1) (λ e. e.0.to ≢ k.to → k.at + link_delay s k.to e.0.to ≤ e.0.at) (step s k c t).events
      (recursion_from_All (λ (e : Key × EventKind). IsAmongMembers s e.0 e.1) (step s k c t).events (step_among s k c t sound among (h t refl))) (steps_linked s sound k c t))

  keeps_between : KeepsBetween s.end division (IsPeopled s division) between (IsSoundCluster s) (step s)
  keeps_between = record {
    stays = sound_stays s sound;
    peopled = λ w k fact here. (k.to, receiver_low s w k (get w.pending k) fact refl here, refl);
    far = λ w k c fact here in_time. made_comes k c (get w.members k.to) (fact.events k c here) (λ t is. fact.states k.to t is);
  }

pub clear_early : (s : Setup) (division : ℕ → ℕ) (between : ℕ → ℕ → ℕ) (w v : Cluster) (k : Key) (made : List Row) → IsSound s → LiesBetween s division between → IsSoundCluster s w
    → TestedStep (step s) (IsClearOf s division between) w k v made → CatchesUp (step s) s.end w v k made
clear_early s division between w v k made sound lies fact is =
    let keeps = keeps_between s sound division between lies in
    early_step (step s) (steps_later s sound) (sends_as_itself s sound) s.end (IsClearIn s.end division (IsPeopled s division) between (IsSoundCluster s))
    (clear_offers (step s) (steps_later s sound) s.end division (IsPeopled s division) between (IsSoundCluster s) keeps) w v k made
    (weaker_step (step s) _ (IsClearIn s.end division (IsPeopled s division) between (IsSoundCluster s)) w v k made (is.passes, fact) is)

pub clear_windows : (s : Setup) (division : ℕ → ℕ) (between : ℕ → ℕ → ℕ) (bounds : ℕ → ℕ) (w : Cluster) (windows : List (Window State EventKind Row)) → IsSound s → LiesBetween s division between
    → IsSoundCluster s w → AreHorizons s.end division (IsPeopled s division) between bounds w → AreWindowsOfDifferentParts (step s) division bounds w windows
    → (v : Cluster) × Schedule (step s) (IsClearOf s division between) w (all_keys windows) (all_rows windows) v × StandsAfter division w windows v × IsSoundCluster s v
clear_windows s division between bounds w windows sound lies fact horizons are =
    let keeps = keeps_between s sound division between lies in
    let Clear : Cluster → Key → Type 0 = IsClearIn s.end division (IsPeopled s division) between (IsSoundCluster s) in
    let Ready : Cluster → Type 0 = λ u. IsSoundCluster s u × AreHorizons s.end division (IsPeopled s division) between bounds u in
    let offers = horizons_offer (step s) (steps_later s sound) s.end division (IsPeopled s division) between (IsSoundCluster s) keeps bounds in (
      after_all (step s) (sends_as_itself s sound) division bounds Clear Ready offers w windows (fact, horizons) are,
      weaker_schedule (step s) Clear (IsClearOf s division between) (λ u k is. is.0) (all_keys windows) w _ (all_rows windows)
          (all_schedule (step s) (sends_as_itself s sound) division bounds Clear Ready offers w windows (fact, horizons) are),
      stands_after (step s) (sends_as_itself s sound) division bounds Clear Ready offers w windows (fact, horizons) are,
      (ready_after (step s) (sends_as_itself s sound) division bounds Clear Ready offers w windows (fact, horizons) are).0,
    )

-- ---- what schedules of clear steps, and windows below horizons, are to the run

module _ (s : Setup) (division : ℕ → ℕ) (between : ℕ → ℕ → ℕ) (sound : IsSound s) (lies : LiesBetween s division between) where
  abbrev Clear : Cluster → Key → Type 0
  Clear = IsClearIn s.end division (IsPeopled s division) between (IsSoundCluster s)

  abbrev Ready : (ℕ → ℕ) → Cluster → Type 0
  Ready bounds w = IsSoundCluster s w × AreHorizons s.end division (IsPeopled s division) between bounds w

  early_offers : OffersEarly (step s) s.end Clear
  early_offers = clear_offers (step s) (steps_later s sound) s.end division (IsPeopled s division) between (IsSoundCluster s) (keeps_between s sound division between lies)

  -- a cluster stays sound
  clear_kept : (keys : List Key) (w v : Cluster) (rows : List Row) → IsSoundCluster s w → Schedule (step s) (IsClearOf s division between) w keys rows v
      → Schedule (step s) Clear w keys rows v × IsSoundCluster s v
  clear_kept = with_fact (step s) (IsClearOf s division between) (IsSoundCluster s) (λ w k c fact clear here. sound_stays s sound w k c fact here clear.in_time)

  -- its rows and those of the run that is left are the whole run's, in another order
  pub clear_rows : (w v : Cluster) (keys run_keys left_keys : List Key) (rows run left : List Row) → IsSoundCluster s w → Schedule (step s) (IsClearOf s division between) w keys rows v
      → IsRunFrom s w run_keys run → IsRunFrom s v left_keys left → IsPermutation (rows ++ left) run
  clear_rows w v keys run_keys left_keys rows run left fact is =
      rows_by_schedule (step s) (steps_later s sound) (sends_as_itself s sound) s.end Clear early_offers w v keys run_keys left_keys rows run left (clear_kept keys w v rows fact is).0

  -- each member's stand in the order of the run
  pub clear_rows_by : (w v : Cluster) (keys run_keys left_keys : List Key) (rows run left : List Row) → IsSoundCluster s w → Schedule (step s) (IsClearOf s division between) w keys rows v
      → IsRunFrom s w run_keys run → IsRunFrom s v left_keys left → (m : ℕ) → rows_by whose m run ≡ rows_by whose m rows ++ rows_by whose m left
  clear_rows_by w v keys run_keys left_keys rows run left fact is whole rest m =
      each_by_schedule (step s) (steps_later s sound) (sends_as_itself s sound) s.end Clear early_offers whose (tells_receiver (step s) (steps_later s sound) place_of (steps_counted s sound)) m
      w v keys run_keys left_keys rows run left (clear_kept keys w v rows fact is).0 whole rest

  -- a clear step lowers no horizon
  pub horizons_stay : (bounds : ℕ → ℕ) (w v : Cluster) (k : Key) (made : List Row) → IsSoundCluster s w → AreHorizons s.end division (IsPeopled s division) between bounds w
      → TestedStep (step s) (IsClearOf s division between) w k v made → AreHorizons s.end division (IsPeopled s division) between bounds v
  horizons_stay bounds w v k made fact horizons is =
      let offers = horizons_offer (step s) (steps_later s sound) s.end division (IsPeopled s division) between (IsSoundCluster s) (keeps_between s sound division between lies) bounds in
      subst (AreHorizons s.end division (IsPeopled s division) between bounds) (sym is.world) (offers.stays w k is.content (fact, horizons) (is.passes, fact) is.here).1

  -- what the run from its end meets, the run meets
  pub clear_met : (w v : Cluster) (keys : List Key) (rows : List Row) (m : ℕ) (t : State) → IsSoundCluster s w → Schedule (step s) (IsClearOf s division between) w keys rows v
      → MeetsState (step s) s.end v m t → MeetsState (step s) s.end w m t
  clear_met w v keys rows m t fact is =
      met_by_schedule (step s) (steps_later s sound) (sends_as_itself s sound) s.end Clear early_offers keys w v rows m t (clear_kept keys w v rows fact is).0

  module _ (bounds : ℕ → ℕ) (w : Cluster) (fact : IsSoundCluster s w) (horizons : AreHorizons s.end division (IsPeopled s division) between bounds w) where
    -- and so is a state in which the steps of a part below its bound leave a member
    pub clear_met_in_part : (part : ℕ) (after : Cluster) (keys : List Key) (out : List (Key × EventKind)) (rows : List Row) (m : ℕ) (t : State)
        → PartRun (step s) (is_in division part) (bounds part) (part_of (is_in division part) w) keys out rows after → get after.members m ≡ Some t → MeetsState (step s) s.end w m t
    clear_met_in_part part after keys out rows m t =
        met_by_part (step s) (steps_later s sound) (sends_as_itself s sound) s.end Clear early_offers division bounds (Ready bounds)
        (horizons_offer (step s) (steps_later s sound) s.end division (IsPeopled s division) between (IsSoundCluster s) (keeps_between s sound division between lies) bounds)
        part w after keys out rows m t (fact, horizons)

    -- nothing is left below its bound for a part that had its window
    pub clear_none_left : (windows : List (Window State EventKind Row)) (v : Cluster) → AreWindowsOfDifferentParts (step s) division bounds w windows → StandsAfter division w windows v
        → (q : Key) → IsPending v q → IncludesPart windows (division q.to) → bounds (division q.to) ≤ q.at
    clear_none_left windows v are stands q here has =
        let offers = horizons_offer (step s) (steps_later s sound) s.end division (IsPeopled s division) between (IsSoundCluster s) (keeps_between s sound division between lies) bounds in
        let same = stands_once division w (after_all (step s) (sends_as_itself s sound) division bounds Clear (Ready bounds) offers w windows (fact, horizons) are) v windows
        (stands_after (step s) (sends_as_itself s sound) division bounds Clear (Ready bounds) offers w windows (fact, horizons) are) stands in
        subst (λ (u : Cluster). (r : Key) → IsPending u r → IncludesPart windows (division r.to) → bounds (division r.to) ≤ r.at) same
        (none_left (step s) (sends_as_itself s sound) division bounds Clear (Ready bounds) offers w windows (fact, horizons) are) q here has
