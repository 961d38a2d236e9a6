-- Where a drive pauses and rests, and the error that it ends by.
use Rattle.std.proofs.Common.{◌≡◌, ◌⊎◌, ℕ, List, [], Option, Result, Err, IsErrAnd, inl, inr, ap, ◌+◌, ◌∙◌, sym, subst, refl, append-nil, arith}
use Rattle.std.specs.Result.{OnOk, IfErr}
use Rattle.std.specs.declared.cmp.Ordering.{Ordering}
use Rattle.base.specs.declared.fault.Fault.{Fault}
use Rattle.base.specs.declared.fault.Fault.TheVariants as fault
use Rattle.base.specs.World.{IsOver}
use Rattle.reports.proofs.Faults.{is_err}
use Rattle.scenario.specs.Setup.{Setup, IsSound}
use Rattle.trace.specs.declared.row.Row.{Row}
use Rattle.windows.specs.Cluster.{IsRowOrder}
use Rattle.run_output.specs.Written.{sink_failures}
use Rattle.run_output.proofs.Failing.{answered}
use Rattle.run_output.proofs.Faults.{on_both}
use Rattle.drive_world.specs.declared.ends.DriveError.{DriveError}
use Rattle.drive_world.specs.declared.ends.DriveError.TheVariants as error
use Rattle.drive_world.specs.declared.ends.Halt.{Halt}
use Rattle.drive_world.specs.declared.ends.Halt.TheVariants.{Stopped, Closed}
use Rattle.drive_world.specs.declared.ends.Stop.{Stop}
use Rattle.drive_world.specs.declared.world.World.{World as Held}
use Rattle.drive_world.specs.Telling.{NoneMay}
use Rattle.drive_world.specs.DriveOf.{drive_of, world_of}
use Rattle.drive_world.specs.Drives.{IsUnanswered}
use Rattle.drive_world.specs.Halts.{IsHalted, HaltsBy}
use Rattle.drive_world.specs.Turns.{GoesOn, IsOnWay}
use Rattle.drive_world.specs.UnderWay.{IsUnderWay}
use Rattle.drive_world.specs.Ends.{TakesBeginning, IsPaused, PausesBy, RestsBy, StopsBy, EndsEarly, error_of, drive_failures}
use Rattle.drive_world.proofs.Handed.{turned}

module _ (cmp : Row → Row → Ordering) (order : IsRowOrder cmp) (s : Setup) (least_delay : Option ℕ) where
  halted : (w v : Held) (told told_new : List ℕ) (gave gave_new : List (List ℕ)) (written : List Row) → IsUnderWay cmp s least_delay w told gave written
      → IsHalted s least_delay w v told told_new gave gave_new → IsPaused cmp s least_delay v told_new gave_new written
  halted w v told told_new gave gave_new written under halt = record {
    before = gave;
    behind = halt.behind;
    under =
        subst (λ t. IsUnderWay cmp s least_delay v t gave written) (sym halt.told) (subst (λ u. IsUnderWay cmp s least_delay u told gave written) (sym halt.same) under);
    read = halt.gave;
  }

  -- a drive under way that halts pauses
  pub pauses : IsSound s → (halt : Halt) (w v : Held) (told told_new : List ℕ) (gave gave_new : List (List ℕ)) (written : List Row) → IsUnderWay cmp s least_delay w told gave written → GoesOn s.end w
      → IsOnWay s v → HaltsBy s least_delay halt w v told told_new gave gave_new → PausesBy cmp s least_delay halt v told_new gave_new written
  unfolding halted
  pauses sound (Stopped place stop event) w v told told_new gave gave_new written under goes way halt = (
    halted w v told told_new gave gave_new written under halt.0,
    subst (λ u. NoneMay s least_delay (drive_of u)) (sym halt.0.same) halt.0.none,
    subst (GoesOn s.end) (sym halt.0.same) goes,
    subst (λ u. IsUnanswered s (drive_of u) gave halt.0.behind place stop event.items) (sym halt.0.same) (halt.1 under.come.counts),
  )
  pauses sound Closed w v told told_new gave gave_new written under goes way (inl halt) = (told_new, halted w v told told_new gave gave_new written under halt)
  pauses sound Closed w v told told_new gave gave_new written under goes way (inr turn) = (
    turn.0,
    record {
      before = gave_new;
      behind = [];
      under = turned cmp order s least_delay w v told turn.0 gave gave_new written sound under turn.1 way;
      read = sym (append-nil gave_new);
    },
  )

  -- where a drive pauses it is under way
  pub pauses_under : (halt : Halt) (w : Held) (told : List ℕ) (gave : List (List ℕ)) (written : List Row) → PausesBy cmp s least_delay halt w told gave written
      → (lines : List ℕ) × (came : List (List ℕ)) × IsUnderWay cmp s least_delay w lines came written
  pauses_under (Stopped place stop event) w told gave written paused = (told, paused.0.before, paused.0.under)
  pauses_under Closed w told gave written paused = (paused.0, paused.1.before, paused.1.under)

  -- where nothing can be sent to the harness too
  pub closed_way : (halt : Halt) (w : Held) (told : List ℕ) (gave : List (List ℕ)) (written : List Row) → PausesBy cmp s least_delay halt w told gave written
      → (lines : List ℕ) × (came : List (List ℕ)) × (rows : List Row) × IsUnderWay cmp s least_delay w lines came rows
  closed_way halt w told gave written paused = let under = pauses_under halt w told gave written paused in (under.0, under.1, written, under.2)

  -- where an answer is none it rests
  pub rests_stopped : (halt : Halt) (place : ℕ) (stop : Stop) (event : _) → halt ≡ Stopped place stop event → (w : Held) (told : List ℕ) (gave : List (List ℕ)) (written : List Row)
      → PausesBy cmp s least_delay halt w told gave written → RestsBy cmp s least_delay halt w told gave written
  rests_stopped (Stopped p t e) place stop event is w told gave written paused = paused
  rests_stopped Closed place stop event is w told gave written paused = absurd (let no : Closed ≡ Stopped place stop event = is in cc)

  -- where nothing can be sent to the harness it rests once it went on
  pub rests_closed : (halt : Halt) → halt ≡ Closed → (w v : Held) (r : Result (Unit {0}) Fault)
      → ((told : List ℕ) (gave : List (List ℕ)) (written : List Row) → IsUnderWay cmp s least_delay w told gave written → OnOk r ((lines : List ℕ) × IsUnderWay cmp s least_delay v lines gave written))
      → OnOk r (IsOver s.end (world_of v) ⊎ NoneMay s least_delay (drive_of v)) → (told : List ℕ) (gave : List (List ℕ)) (written : List Row) → PausesBy cmp s least_delay halt w told gave written
      → OnOk r (RestsBy cmp s least_delay halt v told gave written)
  rests_closed (Stopped place stop event) is w v r goes none told gave written paused = absurd (let no : Stopped place stop event ≡ Closed = is in cc)
  rests_closed Closed is w v r goes none told gave written paused =
      let at : IsPaused cmp s least_delay w paused.0 gave written = paused.1 in
      let gives : ((lines : List ℕ) × IsUnderWay cmp s least_delay v lines at.before written) → IsOver s.end (world_of v) ⊎ NoneMay s least_delay (drive_of v)
      → RestsBy cmp s least_delay Closed v told gave written =
      λ more rest. (more.0, record { before = at.before; behind = at.behind; under = more.1; read = at.read }, rest) in
      on_both r gives (goes paused.0 at.before written at.under) none

-- ---- the error that it ends by

pub ends_fault : {T : Type 0} (s : Setup) (gave : List (List ℕ)) (told : List ℕ) (first held : Option (List ℕ)) (r : Result T DriveError) (fault : Fault) → IsErrAnd r (λ e. e ≡ error.Fault fault)
    → TakesBeginning s first held → IfErr r (λ e. EndsEarly s e gave told first held)
ends_fault s gave told first held r fault gives takes = answered (λ e. EndsEarly s e gave told first held) r (error.Fault fault) gives takes

pub fails_by : {T : Type 0} (r : Result T DriveError) (fault : Fault) → IsErrAnd r (λ e. e ≡ error.Fault fault) → drive_failures r ≡ sink_failures {T = Unit {0}} (Err fault)
fails_by r fault gives = ap drive_failures (is_err r (error.Fault fault) gives)

pub ends_halt : (s : Setup) (gave : List (List ℕ)) (told : List ℕ) (first held : Option (List ℕ)) (halt : Halt) → StopsBy s halt gave told first held → EndsEarly s (error_of halt) gave told first held
ends_halt s gave told first held (Stopped place stop event) stops = stops
ends_halt s gave told first held Closed stops = stops

pub halts_without : (T : Type 0) (halt : Halt) → drive_failures {T = T} (Err (error_of halt)) ≡ 0
halts_without T (Stopped place stop event) = refl
halts_without T Closed = refl

fails_alike : (T U : Type 0) (fault : Fault) → sink_failures {T = T} (Err fault) ≡ sink_failures {T = U} (Err fault)
fails_alike T U fault.Memory = refl
fails_alike T U fault.CounterOverflow = refl
fails_alike T U fault.Write = refl
fails_alike T U fault.ThreadLost = refl

pub same_failures : {T : Type 0} (U : Type 0) (r : Result T Fault) (fault : Fault) → IsErrAnd r (λ e. e ≡ fault) → sink_failures r ≡ sink_failures {T = U} (Err fault)
same_failures {T} U r fault gives = ap sink_failures (is_err r fault gives) ∙ fails_alike T U fault

-- where a drive halts, no write has failed
halt_unfailed : (T : Type 0) (halt : Halt) → drive_failures {T = T} (Err (error_of halt)) ≡ 0
halt_unfailed T (Stopped place stop event) = refl
halt_unfailed T Closed = refl

pub unfailed_halt : (T : Type 0) (first begun played last : ℕ) (e : DriveError) (halt : Halt) → e ≡ error_of halt → begun ≡ first + 0 → played ≡ begun + 0 → last ≡ played + 0
    → last ≡ first + drive_failures {T = T} (Err e)
unfailed_halt T first begun played last e halt is begins plays ends =
    let none : drive_failures {T = T} (Err e) ≡ 0 = ap (λ x. drive_failures {T = T} (Err x)) is ∙ halt_unfailed T halt in
    omega (arith, none, begins, plays, ends)
