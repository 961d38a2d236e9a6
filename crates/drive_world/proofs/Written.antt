-- The rows of a drive that came to the end are the run's, and those before a moment below which nothing pends are a beginning of it.
use Rattle.std.proofs.Common.{◌≡◌, ◌++◌, ℕ, ◌<◌, ◌≤◌, List, Option, subst}
use Rattle.std.specs.List.{AllByRecursion}
use Rattle.std.specs.List.Sorted.{IsPermutation, IsSorted}
use Rattle.std.specs.declared.cmp.Ordering.{Ordering}
use Rattle.base.specs.declared.key.Key.{Key}
use Rattle.base.specs.Run.{trace, handled, run-exists}
use Rattle.base.specs.World.{IsPending, IsOver, SequentialRun}
use Rattle.scenario.specs.Setup.{Setup, IsSound}
use Rattle.trace.specs.declared.row.Row.{Row}
use Rattle.member.specs.Places.{place_of}
use Rattle.windows.specs.Cluster.{IsLeastDelay, IsRowOrder}
use Rattle.windows.proofs.Schedules.{safe_trace, safe_released}
use Rattle.drive_process.specs.Answers.{AreSoundAnswers}
use Rattle.drive_process.specs.Driven.{Answers, driven, opening}
use Rattle.drive_process.proofs.Fair.{driven_later, driven_own, driven_counts}
use Rattle.drive_world.specs.Courses.{Course, IsCourse}
use Rattle.drive_world.specs.Drives.{Agree}
use Rattle.drive_world.proofs.People.{IsForMembers, keeps_far, opening_people}
use Rattle.drive_world.proofs.Scheduled.{on_course}

module _ (s : Setup) (sound : IsSound s) (least_delay : Option ℕ) (least : IsLeastDelay s least_delay) (answers : Answers) (are : AreSoundAnswers s answers) (c : Course) (is : IsCourse s least_delay c)
    (agree : Agree answers c.asked c.taken) (cmp : Row → Row → Ordering) (order : IsRowOrder cmp) (sorted : List Row) (items : IsPermutation c.rows sorted) (up : IsSorted cmp sorted) where
  pub written_at_end : IsOver s.end c.last.world → (keys : List Key) × SequentialRun (driven s answers) s.end (opening s) keys sorted
  written_at_end over =
      let step = driven s answers in
      let later = driven_later s sound answers are in
      let whole = run-exists step later s.end (opening s) in
      let same : trace step later s.end (opening s) ≡ sorted =
      safe_trace step later (driven_own s sound answers are) s.end least_delay (IsForMembers s) (keeps_far s sound answers are least_delay least)
      place_of (driven_counts s sound answers are) cmp order.total order.agrees c.over (handled step later s.end (opening s)) (opening s) c.last.world c.rows sorted
      (trace step later s.end (opening s)) (opening_people s) (on_course s sound least_delay least answers are c is agree).schedule over whole items up in
      (handled step later s.end (opening s), subst (SequentialRun step s.end (opening s) (handled step later s.end (opening s))) same whole)

  -- while the drive goes on: the run begins with these rows, whatever else is answered
  pub written_before : (bound : ℕ) → AllByRecursion (λ k. k.at < bound) c.over → ((q : Key) → IsPending c.last.world q → bound ≤ q.at)
      → trace (driven s answers) (driven_later s sound answers are) s.end (opening s) ≡ sorted ++ trace (driven s answers) (driven_later s sound answers are) s.end c.last.world
  written_before bound below from =
      let step = driven s answers in
      let later = driven_later s sound answers are in
      safe_released step later (driven_own s sound answers are) s.end least_delay (IsForMembers s) (keeps_far s sound answers are least_delay least) (opening s) c.last.world c.over
      (handled step later s.end (opening s)) (handled step later s.end c.last.world) c.rows (trace step later s.end (opening s)) (trace step later s.end c.last.world)
      (opening_people s) (on_course s sound least_delay least answers are c is agree).schedule (run-exists step later s.end (opening s)) (run-exists step later s.end c.last.world)
      place_of (driven_counts s sound answers are) cmp order.total order.agrees bound sorted below from items up
