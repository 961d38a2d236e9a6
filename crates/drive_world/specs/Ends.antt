-- How a drive ends before the end of its scenario, and what its trace has then.
use Rattle.std.specs.Prelude.{◌≡◌, ◌⊎◌, ◌++◌, ℕ, List, Option, Some, None, Result, Ok, Err, OnOk}
use Rattle.std.specs.Io.KnownBytes.{Appends}
use Rattle.std.specs.List.Sorted.{IsPermutation, IsSorted}
use Rattle.std.specs.declared.cmp.Ordering.{Ordering}
use Rattle.base.specs.declared.fault.Fault.{Fault}
use Rattle.base.specs.World.{IsOver}
use Rattle.scenario.specs.Setup.{Setup}
use Rattle.trace.specs.declared.row.Row.{Row}
use Rattle.trace.specs.Sinks.{AppendsBeginning}
use Rattle.trace.specs.Text.{trace_text}
use Rattle.run_output.specs.Written.{HasWritten, sink_failures}
use Rattle.drive_world.specs.declared.ends.DriveError.{DriveError}
use Rattle.drive_world.specs.declared.ends.DriveError.TheVariants as error
use Rattle.drive_world.specs.declared.ends.Halt.{Halt}
use Rattle.drive_world.specs.declared.ends.Halt.TheVariants.{Stopped, Closed}
use Rattle.drive_world.specs.declared.world.World.{World as Held}
use Rattle.drive_world.specs.DriveOf.{drive_of, world_of}
use Rattle.drive_world.specs.Telling.{NoneMay}
use Rattle.drive_world.specs.Turns.{GoesOn}
use Rattle.drive_world.specs.Drives.{DrivesTo, DrivesUpTo, BeginsDrive, IsUnanswered, StopsAt}
use Rattle.drive_world.specs.UnderWay.{IsUnderWay}

-- The place has got the trace of these rows since it held what it held first, and they were tallied.
abbrev pub HasTaken : Setup → Option (List ℕ) → Option (List ℕ) → List Row → Type 0
HasTaken s first held rows = HasWritten {T = Unit {0}} s rows first held rows (Ok (tt {0}))

-- the place has got a beginning of the trace
abbrev pub TakesBeginning : Setup → Option (List ℕ) → Option (List ℕ) → Type 0
TakesBeginning s first held = (rows : List Row) × BeginsDrive s rows × AppendsBeginning first held (trace_text s rows)

-- it has all rows, and no answer is missing
abbrev pub DrivesToBy : Setup → List (List ℕ) → List ℕ → List Row → Type 0
DrivesToBy s came_in lines rows = (answers behind : List (List ℕ)) × (came_in ≡ answers ++ behind) × DrivesTo s answers lines rows

-- Where an answer is none, the harness was sent all lines. Where nothing more can be sent, as many as could be.
abbrev pub StopsBy : Setup → Halt → List (List ℕ) → List ℕ → Option (List ℕ) → Option (List ℕ) → Type 0
StopsBy s (Stopped place stop event) came_in told first held = (rows : List Row) × StopsAt s place stop event.items came_in told rows × Appends first held (trace_text s rows)
StopsBy s Closed came_in told first held =
    (rows : List Row) × (lines : List ℕ) × (DrivesUpTo s came_in lines rows ⊎ DrivesToBy s came_in lines rows) × Appends first held (trace_text s rows)

-- the error that the drive ends by
abbrev pub error_of : Halt → DriveError
error_of (Stopped place stop event) = error.Stopped place stop event
error_of Closed = error.Closed

-- what an error leaves
abbrev pub EndsEarly : Setup → DriveError → List (List ℕ) → List ℕ → Option (List ℕ) → Option (List ℕ) → Type 0
EndsEarly s (error.Stopped place stop event) came_in told first held = StopsBy s (Stopped place stop event) came_in told first held
EndsEarly s error.Closed came_in told first held = StopsBy s Closed came_in told first held
EndsEarly s (error.Fault fault) came_in told first held = TakesBeginning s first held

-- the failures of a drive's sink: one where a write failed
abbrev pub drive_failures : {T : Type 0} → Result T DriveError → ℕ
drive_failures (Ok _) = 0
drive_failures (Err (error.Fault fault)) = sink_failures {T = Unit {0}} (Err fault)
drive_failures (Err _) = 0

-- ---- rows that are handed on

-- They are handed on in their order; where that succeeds they were tallied.
pub record HandsOn (cmp : Row → Row → Ordering) (s : Setup) (rows before after : List Row) (held_old held_new : Option (List ℕ)) (outcome : Result (Unit {0}) Fault) : Type 0 where
  pub sorted : List Row
  pub same : IsPermutation rows sorted
  pub up : IsSorted cmp sorted
  pub tallied : OnOk outcome (after ≡ before ++ sorted)
  pub written : (first : Option (List ℕ)) → HasTaken s first held_old before → HasWritten s (before ++ sorted) first held_new after outcome

-- ---- where the loop comes to rest

-- A drive is under way, by the lines and the first answers that came in.
pub record IsPaused (cmp : Row → Row → Ordering) (s : Setup) (least_delay : Option ℕ) (w : Held) (told : List ℕ) (gave : List (List ℕ)) (written : List Row) : Type 0 where
  pub before : List (List ℕ)
  pub behind : List (List ℕ)
  pub under : IsUnderWay cmp s least_delay w told before written
  pub read : gave ≡ before ++ behind

-- an event waits for an answer that is none, or nothing can be sent to the harness
abbrev pub PausesBy : (Row → Row → Ordering) → Setup → Option ℕ → Halt → Held → List ℕ → List (List ℕ) → List Row → Type 0
PausesBy cmp s least_delay (Stopped place stop event) w told gave written =
    (paused : IsPaused cmp s least_delay w told gave written) × NoneMay s least_delay (drive_of w) × GoesOn s.end w
    × IsUnanswered s (drive_of w) paused.before paused.behind place stop event.items
PausesBy cmp s least_delay Closed w told gave written = (lines : List ℕ) × IsPaused cmp s least_delay w lines gave written

-- or nothing is left
abbrev pub PausesAt : (Row → Row → Ordering) → Setup → Option ℕ → Option Halt → Held → List ℕ → List (List ℕ) → List Row → Type 0
PausesAt cmp s least_delay None w told gave written = IsUnderWay cmp s least_delay w told gave written × IsOver s.end (world_of w)
PausesAt cmp s least_delay (Some halt) w told gave written = PausesBy cmp s least_delay halt w told gave written

-- An answer is needed, or nothing is left: where nothing can be sent to the harness, as if it could be.
abbrev pub RestsBy : (Row → Row → Ordering) → Setup → Option ℕ → Halt → Held → List ℕ → List (List ℕ) → List Row → Type 0
RestsBy cmp s least_delay (Stopped place stop event) w told gave written =
    (paused : IsPaused cmp s least_delay w told gave written) × NoneMay s least_delay (drive_of w) × GoesOn s.end w
    × IsUnanswered s (drive_of w) paused.before paused.behind place stop event.items
RestsBy cmp s least_delay Closed w told gave written =
    (lines : List ℕ) × IsPaused cmp s least_delay w lines gave written × (IsOver s.end (world_of w) ⊎ NoneMay s least_delay (drive_of w))
