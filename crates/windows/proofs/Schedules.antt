-- Schedules of safe steps and windows against the run, over any machine.
use Rattle.std.proofs.Common.{◌≡◌, ℕ, ◌<◌, ◌≤◌, Bool, true, cond, List, [], ◌∷◌, ◌++◌, Option, Some, None, ap, ◌∙◌, sym, subst, refl}
use Rattle.std.specs.Option.{option_map}
use Rattle.std.specs.List.{AllByRecursion}
use Rattle.std.specs.List.Sorted.{IsPermutation, IsSorted}
use Rattle.std.specs.Cmp.{IsTotalOrder, nat_cmp_total}
use Rattle.std.specs.FinMap.{get, remove, nat_cmp-IsAntisymmetric}
use Rattle.std.specs.declared.cmp.Ordering.{Ordering}
use Rattle.std.specs.declared.cmp.Ordering.TheVariants.{Less}
use Rattle.base.specs.declared.key.Key.{Key}
use Rattle.base.specs.World.{Machine, World, events_of, settled, outcome, IsPending, IsOver, SequentialRun}
use Rattle.base.specs.Run.{MakesLater, handled, trace, trace-run}
use Rattle.base.specs.Order.{key_total, key_exact}
use Rattle.base.specs.Rising.{IsPlaceBefore, CountsRows, UsesNumbers, IsNumbered, AreNew}
use Rattle.base.proofs.Rising.{new_step}
use Rattle.windows.specs.Delays.{SendsAsItself, KeepsFar}
use Rattle.windows.specs.Safe.{IsSafe, IsSafeIn}
use Rattle.windows.specs.Schedule.{TestedStep, Schedule, CatchesUp, OffersEarly, MeetsState, TellsWhose, rows_by}
use Rattle.windows.specs.Parts.{Window, IsReady, OffersWindows, for_own, PartRun, part_of, is_in, all_keys, all_rows, AreWindowsOfDifferentParts, StandsAfter, IncludesPart}
use Rattle.windows.proofs.Early.{early_step}
use Rattle.windows.proofs.States.{met_by_schedule, met_after}
use Rattle.windows.proofs.Cuts.{get_retained}
use Rattle.windows.proofs.Numbers.{numbered_schedule, new_in_part}
use Rattle.windows.proofs.Bounds.{common_offers}
use Rattle.windows.proofs.Windows.{kept_value, leads}
use Rattle.windows.proofs.Safety.{safe_offers}
use Rattle.windows.proofs.Merge.{schedule_keys, schedule_rows, schedule_by}
use Rattle.windows.proofs.Released.{released, sorted_trace}
use Rattle.windows.proofs.Division.{after_all, all_schedule, ready_after, stands_after, none_left, keys_early, stands_once}

module _ {S C R : Type 0} (step : Machine S C R) where
  pub weaker_step : (Test Other : World S C → Key → Type 0) (w v : World S C) (k : Key) (made : List R) → Other w k → TestedStep step Test w k v made → TestedStep step Other w k v made
  weaker_step Test Other w v k made passes is = record { content = is.content; here = is.here; passes = passes; world = is.world; made = is.made }

  pub weaker_schedule : (Test Other : World S C → Key → Type 0) → ((w : World S C) (k : Key) → Test w k → Other w k) → (ks : List Key) (w v : World S C) (rows : List R)
      → Schedule step Test w ks rows v → Schedule step Other w ks rows v
  weaker_schedule Test Other gives [] w v rows is = is
  weaker_schedule Test Other gives (k ∷ ks) w v rows is =
      (is.0, is.1, is.2, weaker_step Test Other w is.0 k is.1 (gives w k is.3.passes) is.3, weaker_schedule Test Other gives ks is.0 v is.2 is.4, is.5)

  -- a fact that each step keeps stays through a schedule
  pub with_fact : (Test : World S C → Key → Type 0) (Fact : World S C → Type 0) → ((w : World S C) (k : Key) (c : C) → Fact w → Test w k → get w.pending k ≡ Some c → Fact (settled w k (outcome step w k c)))
      → (ks : List Key) (w v : World S C) (rows : List R) → Fact w → Schedule step Test w ks rows v → Schedule step (λ u k. Test u k × Fact u) w ks rows v × Fact v
  with_fact Test Fact stays [] w v rows fact is = (is, subst Fact (sym is.0) fact)
  with_fact Test Fact stays (k ∷ ks) w v rows fact is =
      let mid : Fact is.0 = subst Fact (sym is.3.world) (stays w k is.3.content fact is.3.passes is.3.here) in
      let rest = with_fact Test Fact stays ks is.0 v is.2 mid is.4 in
      ((is.0, is.1, is.2, weaker_step Test _ w is.0 k is.1 (is.3.passes, fact) is.3, rest.0, is.5), rest.1)

module _ {S C R : Type 0} (step : Machine S C R) (later : MakesLater step) (end : ℕ) where
  same_run : (w : World S C) (keys : List Key) (rows : List R) → SequentialRun step end w keys rows → (handled step later end w ≡ keys) × (trace step later end w ≡ rows)
  same_run w keys rows is = trace-run step later end keys w is.last rows is.run is.over

module _ {S C R : Type 0} (step : Machine S C R) (later : MakesLater step) (own : SendsAsItself step) (end : ℕ) (Test : World S C → Key → Type 0) (early : OffersEarly step end Test) where
  -- the rows of a schedule, with those of the run that is left, are the whole run's, in another order
  pub rows_by_schedule : (w v : World S C) (ks all_ks left_ks : List Key) (rows all left : List R) → Schedule step Test w ks rows v → SequentialRun step end w all_ks all → SequentialRun step end v left_ks left
      → IsPermutation (rows ++ left) all
  rows_by_schedule w v ks all_ks left_ks rows all left is whole rest =
      subst (λ l. IsPermutation (rows ++ l) all) (same_run step later end v left_ks left rest).1
      (subst (IsPermutation (rows ++ trace step later end v)) (same_run step later end w all_ks all whole).1 (schedule_rows step later own end Test early ks w v rows is))

  -- and each member's in the same order
  pub each_by_schedule : (whose : R → ℕ) → TellsWhose whose step → (m : ℕ) (w v : World S C) (ks all_ks left_ks : List Key) (rows all left : List R) → Schedule step Test w ks rows v
      → SequentialRun step end w all_ks all → SequentialRun step end v left_ks left → rows_by whose m all ≡ rows_by whose m rows ++ rows_by whose m left
  each_by_schedule whose tells m w v ks all_ks left_ks rows all left is whole rest =
      ap (rows_by whose m) (sym (same_run step later end w all_ks all whole).1)
      ∙ schedule_by step later own end Test early whose tells m ks w v rows is
      ∙ ap (λ l. rows_by whose m rows ++ rows_by whose m l) (same_run step later end v left_ks left rest).1

  -- a state in which the steps of a part below its bound leave a member, the run meets
  module _ (division bounds : ℕ → ℕ) (Ready : World S C → Type 0) (offers : OffersWindows division bounds Test Ready step) where
    pub met_by_part : (part : ℕ) (w after : World S C) (ks : List Key) (out : List (Key × C)) (rows : List R) (m : ℕ) (state : S) → Ready w
        → PartRun step (is_in division part) (bounds part) (part_of (is_in division part) w) ks out rows after → get after.members m ≡ Some state → MeetsState step end w m state
    met_by_part part w after ks out rows m state ready run there =
        let led = leads step own division bounds Test Ready offers part [] tt tt ks w (part_of (is_in division part) w) after out rows ready refl run in
        let kept : cond (is_in division part m) (get led.world.members m) None ≡ Some state =
        sym (get_retained nat_cmp_total nat_cmp-IsAntisymmetric (is_in division part) led.world.members m) ∙ ap (λ (u : World S C). get u.members m) led.cut ∙ there in
        met_after step later own end Test early ks w led.world rows m state led.schedule (kept_value (get led.world.members m) state (is_in division part m) (is_in division part m) refl kept).1

module _ {S C R : Type 0} (step : Machine S C R) (later : MakesLater step) (own : SendsAsItself step) (end : ℕ) (least_delay : Option ℕ) (Fact : World S C → Type 0)
    (keeps : KeepsFar end least_delay Fact step) where
  -- a safe event may be handled before its turn
  pub safe_early : (w v : World S C) (k : Key) (made : List R) → Fact w → TestedStep step (IsSafe end least_delay) w k v made → CatchesUp step end w v k made
  safe_early w v k made fact is =
      early_step step later own end (IsSafeIn end least_delay Fact) (safe_offers step later end least_delay Fact keeps) w v k made (weaker_step step _ _ w v k made (is.passes, fact) is)

  -- the fact stays through a schedule
  pub schedule_kept : (ks : List Key) (w v : World S C) (rows : List R) → Fact w → Schedule step (IsSafe end least_delay) w ks rows v → Schedule step (IsSafeIn end least_delay Fact) w ks rows v × Fact v
  schedule_kept = with_fact step (IsSafe end least_delay) Fact (λ w k c fact safe here. keeps.stays w k c fact here safe.in_time)

  module _ (w v : World S C) (ks all_ks left_ks : List Key) (rows all left : List R) (fact : Fact w) (is : Schedule step (IsSafe end least_delay) w ks rows v)
      (whole : SequentialRun step end w all_ks all) (rest : SequentialRun step end v left_ks left) where
    -- the keys and the rows of a schedule, with those of the run that is left, are the whole run's, in another order
    pub safe_keys : IsPermutation (ks ++ left_ks) all_ks
    safe_keys =
        let keys = schedule_keys step later own end (IsSafeIn end least_delay Fact) (safe_offers step later end least_delay Fact keeps) ks w v rows (schedule_kept ks w v rows fact is).0 in
        subst (λ l. IsPermutation (ks ++ l) all_ks) (same_run step later end v left_ks left rest).0 (subst (IsPermutation (ks ++ handled step later end v)) (same_run step later end w all_ks all whole).0 keys)

    pub safe_rows : IsPermutation (rows ++ left) all
    safe_rows =
        rows_by_schedule step later own end (IsSafeIn end least_delay Fact) (safe_offers step later end least_delay Fact keeps) w v ks all_ks left_ks rows all left (schedule_kept ks w v rows fact is).0 whole rest

    -- and each member's in the same order
    pub safe_rows_by : (whose : R → ℕ) → TellsWhose whose step → (m : ℕ) → rows_by whose m all ≡ rows_by whose m rows ++ rows_by whose m left
    safe_rows_by whose tells m =
        each_by_schedule step later own end (IsSafeIn end least_delay Fact) (safe_offers step later end least_delay Fact keeps) whose tells m w v ks all_ks left_ks rows all left
        (schedule_kept ks w v rows fact is).0 whole rest

    module _ (place : R → Key × ℕ) (counts : CountsRows place step) (cmp : R → R → Ordering) (total : IsTotalOrder cmp) (agrees : (a b : R) → IsPlaceBefore (place a) (place b) → cmp a b ≡ Less) where
      -- where all events before a bound were handled, and no later one, the rows, sorted, are the next of the run
      pub safe_released : (bound : ℕ) (sorted : List R) → AllByRecursion (λ k. k.at < bound) ks → ((q : Key) → IsPending v q → bound ≤ q.at)
          → IsPermutation rows sorted → IsSorted cmp sorted → all ≡ sorted ++ left
      safe_released bound sorted below from same up =
          sym (same_run step later end w all_ks all whole).1
          ∙ released step later place counts end cmp total agrees own (IsSafeIn end least_delay Fact) (safe_offers step later end least_delay Fact keeps)
          bound ks w v rows sorted (schedule_kept ks w v rows fact is).0 below from same up
          ∙ ap (λ l. sorted ++ l) (same_run step later end v left_ks left rest).1

  -- what the run from the end of a schedule meets, the run meets
  pub safe_met : (w v : World S C) (ks : List Key) (rows : List R) (m : ℕ) (state : S) → Fact w → Schedule step (IsSafe end least_delay) w ks rows v → MeetsState step end v m state → MeetsState step end w m state
  safe_met w v ks rows m state fact is met =
      met_by_schedule step later own end (IsSafeIn end least_delay Fact) (safe_offers step later end least_delay Fact keeps) ks w v rows m state (schedule_kept ks w v rows fact is).0 met

  -- and so is a state in which the steps of a part below a common bound leave a member
  pub part_met : (division : ℕ → ℕ) (part bound : ℕ) (w after : World S C) (ks : List Key) (out : List (Key × C)) (rows : List R) (m : ℕ) (state : S) → IsReady end least_delay Fact bound w
      → PartRun step (is_in division part) bound (part_of (is_in division part) w) ks out rows after → get after.members m ≡ Some state → MeetsState step end w m state
  part_met division part bound =
      met_by_part step later own end (IsSafeIn end least_delay Fact) (safe_offers step later end least_delay Fact keeps) division (λ p. bound) (IsReady end least_delay Fact bound)
      (common_offers step later end least_delay Fact keeps bound division) part

  -- and the events that such a part makes for its own members are new in it
  pub part_new : (next : S → ℕ) → UsesNumbers next step → (division : ℕ → ℕ) (part bound : ℕ) (w p : World S C) (ks : List Key) (out : List (Key × C)) (rows : List R) (k : Key) (c : C)
      → IsReady end least_delay Fact bound w → IsNumbered next w → PartRun step (is_in division part) bound (part_of (is_in division part) w) ks out rows p → get p.pending k ≡ Some c
      → AreNew (remove p.pending k) (for_own (is_in division part) (events_of (outcome step p k c)))
  part_new next numbers division part bound w p ks out rows k c ready numbered run here =
      let owns : ℕ → Bool = is_in division part in
      let led = leads step own division (λ n. bound) (IsSafeIn end least_delay Fact) (IsReady end least_delay Fact bound) (common_offers step later end least_delay Fact keeps bound division)
      part [] tt tt ks w (part_of owns w) p out rows ready refl run in
      let mine : owns k.to ≡ true =
      (kept_value (get led.world.pending k) c (owns k.to) (owns k.to) refl
      (sym (get_retained key_total key_exact (λ q. owns q.to) led.world.pending k) ∙ ap (λ (u : World S C). get u.pending k) led.cut ∙ here)).0 in
      let same : outcome step led.world k c ≡ outcome step p k c =
      ap (option_map (step k c))
      (ap (λ b. cond b (get led.world.members k.to) None) (sym mine)
      ∙ sym (get_retained nat_cmp_total nat_cmp-IsAntisymmetric owns led.world.members k.to) ∙ ap (λ (u : World S C). get u.members k.to) led.cut) in
      new_in_part owns led.world p k (events_of (outcome step p k c)) led.cut mine
      (subst (λ o. AreNew (remove led.world.pending k) (events_of o)) same
      (new_step next step numbers led.world k c (numbered_schedule next step numbers (IsSafeIn end least_delay Fact) ks w led.world rows numbered led.schedule)))

  -- the rows of a schedule to the end, sorted, are the run's
  module _ (place : R → Key × ℕ) (counts : CountsRows place step) (cmp : R → R → Ordering) (total : IsTotalOrder cmp) (agrees : (a b : R) → IsPlaceBefore (place a) (place b) → cmp a b ≡ Less) where
    pub safe_trace : (ks all_ks : List Key) (w v : World S C) (rows sorted all : List R) → Fact w → Schedule step (IsSafe end least_delay) w ks rows v → IsOver end v → SequentialRun step end w all_ks all
        → IsPermutation rows sorted → IsSorted cmp sorted → all ≡ sorted
    safe_trace ks all_ks w v rows sorted all fact is over whole items up =
        sym (same_run step later end w all_ks all whole).1
        ∙ sorted_trace step later place counts end cmp total agrees own (IsSafeIn end least_delay Fact) (safe_offers step later end least_delay Fact keeps) ks w v rows sorted (schedule_kept ks w v rows fact is).0 over items up

  -- windows of different parts lead by safe steps to a world that stands for the parts
  pub windows_lead : (division : ℕ → ℕ) (bound : ℕ) (w : World S C) (ds : List (Window S C R)) → IsReady end least_delay Fact bound w → AreWindowsOfDifferentParts step division (λ part. bound) w ds
      → (v : World S C) × Schedule step (IsSafe end least_delay) w (all_keys ds) (all_rows ds) v × StandsAfter division w ds v × Fact v × ((q : Key) → IsPending v q → IncludesPart ds (division q.to) → bound ≤ q.at)
  windows_lead division bound w ds ready are =
      let offers = common_offers step later end least_delay Fact keeps bound division in
      let Safe : World S C → Key → Type 0 = IsSafeIn end least_delay Fact in
      let Ready : World S C → Type 0 = IsReady end least_delay Fact bound in (
        after_all step own division (λ part. bound) Safe Ready offers w ds ready are,
        weaker_schedule step Safe (IsSafe end least_delay) (λ u k safe. safe.0) (all_keys ds) w _ (all_rows ds) (all_schedule step own division (λ part. bound) Safe Ready offers w ds ready are),
        stands_after step own division (λ part. bound) Safe Ready offers w ds ready are,
        (ready_after step own division (λ part. bound) Safe Ready offers w ds ready are).0,
        none_left step own division (λ part. bound) Safe Ready offers w ds ready are,
      )

  -- the rows of the windows of all parts below a bound, sorted, are the next of the run
  module _ (place : R → Key × ℕ) (counts : CountsRows place step) (cmp : R → R → Ordering) (total : IsTotalOrder cmp) (agrees : (a b : R) → IsPlaceBefore (place a) (place b) → cmp a b ≡ Less) where
    pub windows_released : (division : ℕ → ℕ) (bound : ℕ) (w v : World S C) (ds : List (Window S C R)) (all_ks left_ks : List Key) (all left sorted : List R)
        → IsReady end least_delay Fact bound w → AreWindowsOfDifferentParts step division (λ part. bound) w ds → StandsAfter division w ds v → ((q : Key) → IsPending v q → IncludesPart ds (division q.to))
        → SequentialRun step end w all_ks all → SequentialRun step end v left_ks left → IsPermutation (all_rows ds) sorted → IsSorted cmp sorted → all ≡ sorted ++ left
    windows_released division bound w v ds all_ks left_ks all left sorted ready are stands covers whole rest items up =
        let led = windows_lead division bound w ds ready are in
        let same : led.0 ≡ v = stands_once division w led.0 v ds led.2 stands in
        safe_released w v (all_keys ds) all_ks left_ks (all_rows ds) all left ready.0 (subst (Schedule step (IsSafe end least_delay) w (all_keys ds) (all_rows ds)) same led.1) whole rest
        place counts cmp total agrees bound sorted (keys_early step division bound w ds are.windows)
        (λ q here. subst (λ u. (r : Key) → IsPending u r → IncludesPart ds (division r.to) → bound ≤ r.at) same led.4 q here (covers q here)) items up
