-- What a drive comes to: the rows of the world in which each event made just what was answered to it.
use Rattle.std.specs.Prelude.{◌≡◌, ◌≢◌, ◌++◌, ◌+◌, ◌≤◌, length, nat_eq, ℕ, Bool, true, false, List, [], ◌∷◌, map, Option, Some}
use Rattle.std.specs.FinMap.{get}
use Rattle.std.specs.List.{AllByRecursion}
use Rattle.base.specs.declared.key.Key.{Key}
use Rattle.base.specs.Order.{IsBefore}
use Rattle.base.specs.World.{World, IsPending, IsOver, Run, SequentialRun}
use Rattle.scenario.specs.Setup.{Setup}
use Rattle.trace.specs.declared.row.Row.{Row}
use Rattle.member.specs.declared.event_kind.EventKind.{EventKind}
use Rattle.member.specs.declared.event_kind.EventKind.TheVariants as own
use Rattle.member.specs.State.{State}
use Rattle.member_laws.specs.Runs.{Cluster, IsReached}
use Rattle.windows.specs.Cluster.{IsLeastDelay}
use Rattle.windows.specs.Safe.{IsSafe}
use Rattle.windows.specs.Schedule.{Schedule}
use Rattle.drive_events.specs.declared.content.Content.{Content}
use Rattle.drive_events.specs.declared.content.Content.TheVariants as content
use Rattle.drive_answers.specs.declared.action.Action.{Action}
use Rattle.drive_answers.specs.Answer.{IsNoJson, IsNoList, IsNobodys, IsCause}
use Rattle.drive_answers.specs.declared.error.AnswerError.TheVariants.{Memory}
use Rattle.drive_process.specs.Process.{Process}
use Rattle.drive_process.specs.Answers.{AreSoundAnswers}
use Rattle.drive_process.specs.Driven.{Answers, driven, opening}
use Rattle.drive_process.specs.Own.{Says}
use Rattle.drive_world.specs.Courses.{Course, IsCourse}
use Rattle.drive_world.specs.Next.{has_one_for}
use Rattle.drive_world.specs.Telling.{Drive, exits_in}
use Rattle.drive_world.specs.Turns.{counted}
use Rattle.drive_world.specs.declared.ends.Stop.{Stop}
use Rattle.drive_world.specs.declared.ends.Stop.TheVariants.{Long, Ended, Answer}
use Rattle.drive_events.specs.Line.{line_of}

-- these answers give each asked event what was taken for it, in the order asked; of the last nothing may have been taken
abbrev pub Agree : Answers → List Key → List (List ℕ × List Action) → Type 0
Agree answers keys [] = Unit {0}
Agree answers [] (t ∷ ts) = ⊥
Agree answers (k ∷ ks) (t ∷ ts) = (answers k ≡ t.1) × Agree answers ks ts

-- The whole trace. Whatever the answers to other events would have been, these are the rows of the run of the world in which the
-- answer to each event is the one that was read for it. The lines that came in are the first ones of standard input.
pub record DrivesTo (s : Setup) (came_in : List (List ℕ)) (told : List ℕ) (rows : List Row) : Type 0 where
  pub least_delay : Option ℕ
  pub least : IsLeastDelay s least_delay
  pub course : Course
  pub is : IsCourse s least_delay course
  pub over : IsOver s.end course.last.world
  pub read : map (λ t. t.0) course.taken ≡ came_in
  pub lines : course.lines ≡ told
  pub run : (answers : Answers) → AreSoundAnswers s answers → Agree answers course.asked course.taken → (keys : List Key) × SequentialRun (driven s answers) s.end (opening s) keys rows

-- The run by these answers up to an event: all events before it were handled, and none else.
pub record RunsBefore (s : Setup) (answers : Answers) (key : Key) (rows : List Row) : Type 0 where
  pub keys : List Key
  pub world : World Process Content
  pub run : Run (driven s answers) s.end (opening s) keys rows world
  pub early : AllByRecursion (λ k. IsBefore k key) keys
  pub late : (q : Key) → IsPending world q → ¬ (IsBefore q key)

-- A beginning of the trace, up to some event, whatever the answers to other events would have been.
pub record BeginsDrive (s : Setup) (rows : List Row) : Type 0 where
  pub least_delay : Option ℕ
  pub least : IsLeastDelay s least_delay
  pub course : Course
  pub is : IsCourse s least_delay course
  pub key : Key
  pub run : (answers : Answers) → AreSoundAnswers s answers → Agree answers course.asked course.taken → RunsBefore s answers key rows

-- The beginning of it that has the rows of all events before the first that was to be answered and wasn't. That one is the least that
-- pends, and its member waits for an answer. What came in behind the answers is no answer.
pub record DrivesUpTo (s : Setup) (came_in : List (List ℕ)) (told : List ℕ) (rows : List Row) : Type 0 where
  pub least_delay : Option ℕ
  pub least : IsLeastDelay s least_delay
  pub course : Course
  pub is : IsCourse s least_delay course
  pub behind : List (List ℕ)
  pub read : came_in ≡ map (λ t. t.0) course.taken ++ behind
  pub lines : course.lines ≡ told
  pub key : Key
  pub in_time : key.at ≤ s.end
  pub pends : IsPending course.last.world key
  pub first : (q : Key) → IsPending course.last.world q → ¬ (IsBefore q key)
  pub unanswered : has_one_for key.to course.last.waiting ≡ true
  pub run : (answers : Answers) → AreSoundAnswers s answers → Agree answers course.asked course.taken → RunsBefore s answers key rows

-- What came in behind the answers, by the cause: no line, or one that is no answer for this cause.
abbrev pub IsCauseIn : Setup → ℕ → Bool → List (List ℕ) → Stop → Type 0
IsCauseIn s m exits behind Long = behind ≡ []
IsCauseIn s m exits behind Ended = behind ≡ []
IsCauseIn s m exits behind (Answer cause) =
    (line : List ℕ) × (behind ≡ line ∷ []) × (cause ≢ Memory) × IsCause (IsNoJson line) (IsNoList exits line) (IsNobodys s m exits line) cause

-- The first event that waits has no answer. Its place is that of its answer, from 1, and `event` is its line without the line feed.
pub record IsUnanswered (s : Setup) (d : Drive) (answers behind : List (List ℕ)) (place : ℕ) (stop : Stop) (event : List ℕ) : Type 0 where
  pub key : Key
  pub others : List Key
  pub first : d.waiting ≡ key ∷ others
  pub content : Content
  pub here : get d.world.pending key ≡ Some content
  pub nth : place ≡ counted (length answers + 1)
  pub line : event ++ 10 ∷ [] ≡ line_of s (nat_eq place 1) key content
  pub cause : IsCauseIn s key.to (exits_in s d.world key content) behind stop

-- The beginning of the trace where an answer is none: the place, the cause and the event are those of the first event that waits.
pub record StopsAt (s : Setup) (place : ℕ) (stop : Stop) (event : List ℕ) (came_in : List (List ℕ)) (told : List ℕ) (rows : List Row) : Type 0 where
  pub up_to : DrivesUpTo s came_in told rows
  pub unanswered : IsUnanswered s up_to.course.last (map (λ t. t.0) up_to.course.taken) up_to.behind place stop event

-- ---- our own members

-- an event of the script
abbrev pub is_script : EventKind → Bool
is_script own.Start = true
is_script own.Crash = true
is_script own.Leave = true
is_script _ = false

abbrev pub is_script_content : Content → Bool
is_script_content content.Start = true
is_script_content content.Restart = true
is_script_content content.Crash = true
is_script_content content.Leave = true
is_script_content _ = false

-- A way to write what events ask as timers and payloads: different contents are written differently, and the script stays.
pub record IsEncoding (encode : EventKind → Content) : Type 0 where
  pub one_to_one : (c d : EventKind) → encode c ≡ encode d → c ≡ d
  pub start : encode own.Start ≡ content.Start
  pub crash : encode own.Crash ≡ content.Crash
  pub leave : encode own.Leave ≡ content.Leave
  pub others : (c : EventKind) → is_script c ≡ false → is_script_content (encode c) ≡ false

-- what passes a test is idle
abbrev pub IsIdle : (Key → Content → Bool) → Key → Content → Type 0
IsIdle idle k c = idle k c ≡ true

-- Each answer to an event of the run says what the step does; what is idle is a timer of the member's own, and is answered by nothing.
pub record SaysAll (s : Setup) (encode : EventKind → Content) (Idle : Key → Content → Type 0) (answers : Answers) : Type 0 where
  pub says : (w : Cluster) (k : Key) (c : EventKind) (t : State) → IsReached s w → get w.pending k ≡ Some c → get w.members k.to ≡ Some t → k.at ≤ s.end
      → Says s encode Idle k c t (answers k)
  pub idle : (k : Key) (c : Content) → Idle k c → (is_script_content c ≡ false) × (k.to ≡ k.from) × (answers k ≡ [])

-- ---- what leads there

-- wherever a course comes, it is a schedule of safe steps of the machine whose steps are its answers
pub record IsDriven (s : Setup) (least_delay : Option ℕ) (answers : Answers) (c : Course) : Type 0 where
  pub schedule : Schedule (driven s answers) (IsSafe s.end least_delay) (opening s) c.over c.rows c.last.world
  -- what waits is safe still
  pub safe : AllByRecursion (IsSafe s.end least_delay c.last.world) c.last.waiting
