-- One turn of a drive in memory makes one move.
use Rattle.std.specs.Prelude.{◌≡◌, ℕ, ◌≤◌, ◌-◌, ◌^◌, min, ◌++◌, List, length, map, Option}
use Rattle.base.specs.declared.key.Key.{Key}
use Rattle.base.specs.World.{World, IsPending}
use Rattle.drive_events.specs.declared.content.Content.{Content}
use Rattle.drive_process.specs.Process.{Process}
use Rattle.std.specs.List.{AllByRecursion}
use Rattle.std.specs.List.Sorted.{IsPermutation}
use Rattle.scenario.specs.Setup.{Setup, member_count}
use Rattle.trace.specs.declared.row.Row.{Row}
use Rattle.drive_world.specs.declared.world.World.{World as Held}
use Rattle.drive_world.specs.Courses.{Move, Moves, Course, IsCourse}
use Rattle.worker_queue.specs.Queue.{IsLeastKey}
use Rattle.drive_world.specs.WorldOf.{events_in}
use Rattle.drive_world.specs.DriveOf.{drive_of, world_of, IsPeopled}

-- so many answers, as far as 64 bits count them
abbrev pub counted : ℕ → ℕ
counted n = min n (2 ^ 64 - 1)

-- The world, what the harness was sent and what it gave, before and after it.
pub record Comes (m : Move) (before after : Held) (told_old told_new : List ℕ) (gave_old gave_new : List (List ℕ)) : Type 0 where
  pub drive : drive_of after ≡ m.after
  pub lines : told_new ≡ told_old ++ m.lines
  pub read : gave_new ≡ gave_old ++ map (λ t. t.0) m.taken
  pub rows : after.rows.items ≡ before.rows.items ++ m.rows
  pub counts : before.answers ≡ counted (length gave_old) → after.answers ≡ counted (length gave_new)

-- a move that the rules of a drive allow
pub record Turns (s : Setup) (least_delay : Option ℕ) (before after : Held) (told_old told_new : List ℕ) (gave_old gave_new : List (List ℕ)) : Type 0 where
  pub move : Move
  pub allowed : Moves s least_delay (drive_of before) move
  pub comes : Comes move before after told_old told_new gave_old gave_new

-- the least event that pends comes no later than the end
pub record GoesOn (end : ℕ) (w : Held) : Type 0 where
  pub key : Key
  pub least : IsLeastKey (events_in w.pending) key
  pub in_time : key.at ≤ end

-- an event that pends, and comes no later than the end
abbrev pub Waits : ℕ → World Process Content → Key → Type 0
Waits end w q = IsPending w q × (q.at ≤ end)

-- Wherever a drive has come: events are for members and of members, each member has a place among those that wait, and what waits pends.
pub record IsOnWay (s : Setup) (w : Held) : Type 0 where
  pub people : IsPeopled s (world_of w)
  pub places : length w.waiting.busy.items ≡ member_count s
  pub waits : AllByRecursion (Waits s.end (world_of w)) w.waiting.keys.items

-- What a drive has come to: a course leads to the world, the harness was sent its lines and gave its answers, and its rows are those
-- that were handed on and those that are left.
pub record HasCome (s : Setup) (least_delay : Option ℕ) (w : Held) (told : List ℕ) (gave : List (List ℕ)) (written : List Row) : Type 0 where
  pub course : Course
  pub is : IsCourse s least_delay course
  pub last : course.last ≡ drive_of w
  pub lines : course.lines ≡ told
  pub read : map (λ t. t.0) course.taken ≡ gave
  pub rows : IsPermutation course.rows (written ++ w.rows.items)
  pub counts : w.answers ≡ counted (length gave)
