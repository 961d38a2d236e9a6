-- What rows come to that are handed on before a key, and after the last event.
use Rattle.std.proofs.Common.{◌≡◌, ◌⊎◌, ◌++◌, ◌+◌, ℕ, ◌≤◌, List, [], ◌∷◌, Option, Result, Ok, Err, inl, inr, sym, subst, arith}
use Rattle.std.specs.Result.{OnOk, OnErr}
use Rattle.std.specs.List.{All, AllByRecursion}
use Rattle.std.proofs.lemmas.List.Elements.{All-from_recursion}
use Rattle.std.specs.declared.cmp.Ordering.{Ordering}
use Rattle.base.specs.declared.fault.Fault.{Fault}
use Rattle.base.specs.declared.key.Key.{Key}
use Rattle.base.specs.Order.{IsBefore, before-from_moments}
use Rattle.base.specs.World.{Machine, World, Run, SequentialRun, IsOver}
use Rattle.base.proofs.Rising.{all_append, all_weaker}
use Rattle.scenario.specs.Setup.{Setup, IsSound}
use Rattle.trace.specs.declared.row.Row.{Row}
use Rattle.trace.specs.Sinks.{AppendsBeginning}
use Rattle.trace.specs.Text.{NamesMembers, trace_text}
use Rattle.trace.proofs.Beginnings.{beginning-whole}
use Rattle.std.specs.Io.KnownBytes.{Appends}
use Rattle.windows.specs.Cluster.{IsLeastDelay, IsRowOrder}
use Rattle.worker_queue.specs.Queue.{IsLeastKey}
use Rattle.drive_world.proofs.Firsts.{earlier-from_before_first}
use Rattle.run_output.specs.Written.{HasWritten}
use Rattle.run_output.proofs.Faults.{on_ok}
use Rattle.drive_process.specs.Driven.{Answers, driven, opening}
use Rattle.drive_world.specs.declared.ends.Stop.{Stop}
use Rattle.drive_world.specs.declared.ends.Halt.{Halt}
use Rattle.drive_world.specs.declared.ends.Halt.TheVariants.{Stopped, Closed}
use Rattle.drive_world.specs.declared.world.World.{World as Held}
use Rattle.drive_world.specs.Telling.{NoneMay}
use Rattle.drive_world.specs.WorldOf.{events_in}
use Rattle.drive_world.specs.DriveOf.{drive_of, world_of}
use Rattle.drive_world.specs.Drives.{DrivesTo, DrivesUpTo, BeginsDrive, RunsBefore, IsUnanswered, StopsAt}
use Rattle.drive_world.specs.Rows.{is_row_before, rows_before, rows_from}
use Rattle.drive_world.specs.Turns.{GoesOn}
use Rattle.drive_world.specs.UnderWay.{IsUnderWay}
use Rattle.drive_world.specs.Ends.{HasTaken, TakesBeginning, HandsOn, IsPaused, RestsBy, StopsBy}
use Rattle.drive_world.proofs.Handed.{handed, begun, ended, up_to, stops_up_to, resorted, kept}

pub on_error : {T E P Q : Type 0} (o : Result T E) → (P → Q) → OnErr o P → OnErr o Q
on_error (Ok x) f p = tt
on_error (Err e) f p = f p

-- ---- what was taken

pub takes : (s : Setup) (first held : Option (List ℕ)) (rows : List Row) → HasTaken s first held rows → BeginsDrive s rows → TakesBeginning s first held
takes s first held rows taken begins = (rows, begins, beginning-whole first held (trace_text s rows) taken.whole.0)

taken_by : (s : Setup) (rows tallied : List Row) (first held : Option (List ℕ)) (r : Result (Unit {0}) Fault) → HasWritten s rows first held tallied r → OnOk r (HasTaken s first held tallied)
taken_by s rows tallied first held (Ok u) wrote = subst (λ l. HasWritten {T = Unit {0}} s l first held tallied (Ok (tt {0}))) (sym wrote.whole.1) wrote
taken_by s rows tallied first held (Err fault) wrote = tt

pub named_before : (s : Setup) (key : Key) (all rows : List Row) → rows ≡ rows_before key all → AllByRecursion (NamesMembers s) all → All (NamesMembers s) rows
named_before s key all rows are named =
    All-from_recursion (NamesMembers s) rows (subst (AllByRecursion (NamesMembers s)) (sym are) (kept (NamesMembers s) (is_row_before key) all named))

-- ---- the whole run, as a run up to a key that is past the end

handled_in_time : {S C R : Type 0} (step : Machine S C R) (end : ℕ) (ks : List Key) (w v : World S C) (rows : List R) → Run step end w ks rows v → AllByRecursion (λ k. k.at ≤ end) ks
handled_in_time step end [] w v rows run = tt
handled_in_time step end (k ∷ ks) w v rows run = (run.3, handled_in_time step end ks run.0 v run.2 run.5)

past_key : Setup → Key
past_key s = record { at = s.end + 1; to = 0; from = 0; number = 0 }

before_past : (s : Setup) (k : Key) → k.at ≤ s.end → IsBefore k (past_key s)
unfolding past_key
before_past s k low = before-from_moments k (record { at = s.end + 1; to = 0; from = 0; number = 0 }) (omega (arith, low))

runs_past : (s : Setup) (answers : Answers) (rows : List Row) → (keys : List Key) × SequentialRun (driven s answers) s.end (opening s) keys rows → RunsBefore s answers (past_key s) rows
unfolding past_key
runs_past s answers rows whole = record {
  keys = whole.0;
  world = whole.1.last;
  run = whole.1.run;
  early = all_weaker (λ k. k.at ≤ s.end) (λ k. IsBefore k (past_key s)) (λ k low. before_past s k low) whole.0 (handled_in_time (driven s answers) s.end whole.0 (opening s) whole.1.last rows whole.1.run);
  late = λ q here before. let low = earlier-from_before_first q (s.end + 1) before in let high = whole.1.over q here in omega (arith, low, high);
}

pub all_begins : (s : Setup) (came_in : List (List ℕ)) (told : List ℕ) (rows : List Row) → DrivesTo s came_in told rows → BeginsDrive s rows
all_begins s came_in told rows drives = record {
  least_delay = drives.least_delay;
  least = drives.least;
  course = drives.course;
  is = drives.is;
  key = past_key s;
  run = λ answers are agree. runs_past s answers rows (drives.run answers are agree);
}

module _ (cmp : Row → Row → Ordering) (order : IsRowOrder cmp) (s : Setup) (least_delay : Option ℕ) (sound : IsSound s) (delay : IsLeastDelay s least_delay) where
  -- where a drive rests it is under way
  pub rests_under : (halt : Halt) (w : Held) (told : List ℕ) (gave : List (List ℕ)) (written : List Row) → RestsBy cmp s least_delay halt w told gave written
      → (lines : List ℕ) × (came : List (List ℕ)) × IsUnderWay cmp s least_delay w lines came written
  rests_under (Stopped place stop event) w told gave written rests = (told, rests.0.before, rests.0.under)
  rests_under Closed w told gave written rests = (rests.0, rests.1.before, rests.1.under)

  -- the rows before an event that no other is left before
  module _ (w v : Held) (key : Key) (same : v ≡ record w { rows = v.rows; enough = v.enough }) (left : v.rows.items ≡ rows_from key w.rows.items) (in_time : key.at ≤ s.end)
      (first : IsLeastKey (events_in w.pending) key) (before after : List Row) (held_old held_new : Option (List ℕ)) (r : Result (Unit {0}) Fault)
      (on : HandsOn cmp s (rows_before key w.rows.items) before after held_old held_new r) where
    abbrev rows_then : List Row
    rows_then = before ++ on.sorted

    handed_then : (told : List ℕ) (gave : List (List ℕ)) → IsUnderWay cmp s least_delay w told gave before → IsUnderWay cmp s least_delay v told gave rows_then
    handed_then told gave under = handed cmp order s least_delay w v key told gave before on.sorted under same left on.same on.up in_time first

    pub under_on : (told : List ℕ) (gave : List (List ℕ)) → IsUnderWay cmp s least_delay w told gave before → OnOk r (IsUnderWay cmp s least_delay v told gave after)
    under_on told gave under = on_ok r (λ (e : after ≡ before ++ on.sorted). subst (IsUnderWay cmp s least_delay v told gave) (sym e) (handed_then told gave under)) on.tallied

    pub taken_on : (from : Option (List ℕ)) → HasTaken s from held_old before → OnOk r (HasTaken s from held_new after)
    taken_on from taken = taken_by s rows_then after from held_new r (on.written from taken)

    pub part_on : (told : List ℕ) (gave : List (List ℕ)) → IsUnderWay cmp s least_delay w told gave before → (from : Option (List ℕ)) → HasTaken s from held_old before → OnErr r (TakesBeginning s from held_new)
    part_on told gave under from taken =
        let gives : AppendsBeginning from held_new (trace_text s rows_then) → TakesBeginning s from held_new =
        λ text. (rows_then, begun cmp order s least_delay v told gave rows_then sound delay (handed_then told gave under), text) in
        on_error r gives (on.written from taken).part

    stopped_at : (told : List ℕ) (gave : List (List ℕ)) → (paused : IsPaused cmp s least_delay w told gave before) → NoneMay s least_delay (drive_of w) → (place : ℕ) (stop : Stop) (event : List ℕ)
        → IsUnanswered s (drive_of w) paused.before paused.behind place stop event → StopsAt s place stop event gave told rows_then
    stopped_at told gave paused none place stop event is =
        stops_up_to cmp order s least_delay w v key told paused.before gave paused.behind before on.sorted sound delay paused.under same left on.same on.up in_time first none paused.read place stop event is

    stopped_up_to : (told : List ℕ) (gave : List (List ℕ)) → IsPaused cmp s least_delay w told gave before → NoneMay s least_delay (drive_of w) → DrivesUpTo s gave told rows_then
    stopped_up_to told gave paused none =
        up_to cmp order s least_delay w v key told paused.before gave paused.behind before on.sorted sound delay paused.under same left on.same on.up in_time first none paused.read

    none_then : IsOver s.end (world_of w) ⊎ NoneMay s least_delay (drive_of w) → NoneMay s least_delay (drive_of w)
    none_then (inl over) = absurd (let late = over key first.here in omega (arith, late, in_time))
    none_then (inr none) = none

    stops_at : (halt : Halt) (told : List ℕ) (gave : List (List ℕ)) (from : Option (List ℕ)) → RestsBy cmp s least_delay halt w told gave before → Appends from held_new (trace_text s rows_then)
        → StopsBy s halt gave told from held_new
    stops_at (Stopped place stop event) told gave from rests text = (rows_then, stopped_at told gave rests.0 rests.1 place stop event.items rests.3, text)
    stops_at Closed told gave from rests text = (rows_then, rests.0, inl (stopped_up_to rests.0 gave rests.1 (none_then rests.2)), text)

    pub stops_on : (halt : Halt) (told : List ℕ) (gave : List (List ℕ)) (from : Option (List ℕ)) → RestsBy cmp s least_delay halt w told gave before → HasTaken s from held_old before
        → OnOk r (StopsBy s halt gave told from held_new)
    stops_on halt told gave from rests taken =
        on_ok r (λ (whole : Appends from held_new (trace_text s rows_then) × (after ≡ rows_then)). stops_at halt told gave from rests whole.0) (on.written from taken).whole

  -- all rows, where no event up to the end is left
  module _ (w : Held) (over : IsOver s.end (world_of w)) (before after : List Row) (held_old held_new : Option (List ℕ)) (r : Result (Unit {0}) Fault)
      (on : HandsOn cmp s w.rows.items before after held_old held_new r) where
    abbrev rows_all : List Row
    rows_all = before ++ on.sorted

    drives_all : (told : List ℕ) (gave : List (List ℕ)) → IsUnderWay cmp s least_delay w told gave before → DrivesTo s gave told rows_all
    drives_all told gave under = ended cmp order s least_delay w told gave before on.sorted sound delay under over on.same on.up

    pub done_end : (told : List ℕ) (gave : List (List ℕ)) → IsUnderWay cmp s least_delay w told gave before → OnOk r (DrivesTo s gave told after)
    done_end told gave under = on_ok r (λ (e : after ≡ before ++ on.sorted). subst (DrivesTo s gave told) (sym e) (drives_all told gave under)) on.tallied

    pub named_end : (told : List ℕ) (gave : List (List ℕ)) → IsUnderWay cmp s least_delay w told gave before → OnOk r (AllByRecursion (NamesMembers s) after)
    named_end told gave under =
        on_ok r (λ (e : after ≡ before ++ on.sorted).
        subst (AllByRecursion (NamesMembers s)) (sym e)
        (all_append (NamesMembers s) before on.sorted under.written_named (resorted (NamesMembers s) w.rows.items on.sorted on.same under.named))) on.tallied

    pub taken_end : (from : Option (List ℕ)) → HasTaken s from held_old before → OnOk r (HasTaken s from held_new after)
    taken_end from taken = taken_by s rows_all after from held_new r (on.written from taken)

    pub part_end : (told : List ℕ) (gave : List (List ℕ)) → IsUnderWay cmp s least_delay w told gave before → (from : Option (List ℕ)) → HasTaken s from held_old before → OnErr r (TakesBeginning s from held_new)
    part_end told gave under from taken =
        let gives : AppendsBeginning from held_new (trace_text s rows_all) → TakesBeginning s from held_new =
        λ text. (rows_all, all_begins s gave told rows_all (drives_all told gave under), text) in
        on_error r gives (on.written from taken).part

    stops_over : (halt : Halt) (told : List ℕ) (gave : List (List ℕ)) (from : Option (List ℕ)) → RestsBy cmp s least_delay halt w told gave before → Appends from held_new (trace_text s rows_all)
        → StopsBy s halt gave told from held_new
    stops_over (Stopped place stop event) told gave from rests text =
        let goes : GoesOn s.end w = rests.2 in
        let late = over goes.key goes.least.here in
        let low = goes.in_time in absurd (omega (arith, late, low))
    stops_over Closed told gave from rests text =
        let paused = rests.1 in (rows_all, rests.0, inr (paused.before, paused.behind, paused.read, drives_all rests.0 paused.before paused.under), text)

    pub stops_end : (halt : Halt) (told : List ℕ) (gave : List (List ℕ)) (from : Option (List ℕ)) → RestsBy cmp s least_delay halt w told gave before → HasTaken s from held_old before
        → OnOk r (StopsBy s halt gave told from held_new)
    stops_end halt told gave from rests taken =
        on_ok r (λ (whole : Appends from held_new (trace_text s rows_all) × (after ≡ rows_all)). stops_over halt told gave from rests whole.0) (on.written from taken).whole
