-- The course of a drive: what is sent, which answers are taken, and which rows come of it, move by move.
use Rattle.std.specs.Prelude.{◌≡◌, ◌⊎◌, ◌||◌, ℕ, Bool, true, false, not, List, [], ◌∷◌, ◌++◌, Option, Some, if◌then◌else◌}
use Rattle.std.specs.Option.{option_map}
use Rattle.std.specs.FinMap.{get}
use Rattle.base.specs.declared.key.Key.{Key}
use Rattle.base.specs.World.{World, Outcome, settled, rows_of}
use Rattle.scenario.specs.Setup.{Setup}
use Rattle.trace.specs.declared.row.Row.{Row}
use Rattle.drive_events.specs.declared.content.Content.{Content}
use Rattle.drive_events.specs.Line.{line_of}
use Rattle.drive_answers.specs.declared.action.Action.{Action}
use Rattle.drive_answers.specs.Answer.{IsAnswer}
use Rattle.drive_process.specs.Process.{Process, unchanged}
use Rattle.drive_process.specs.Driven.{heeded, opening}
use Rattle.drive_world.specs.declared.fate.Fate.{Fate}
use Rattle.drive_world.specs.declared.fate.Fate.TheVariants.{Untold, Told, Asked}
use Rattle.drive_world.specs.Telling.{Drive, fate_of, exits_in, IsNext, NoneMay}

-- what an event comes to in a world, by these actions
abbrev pub outcome_by : Setup → List Action → World Process Content → Key → Content → Option (Outcome Process Content Row)
outcome_by s actions w k content = option_map (λ p. heeded s k content p.phase actions (unchanged p)) (get w.members k.to)

-- what a move leaves, sends, takes and writes
pub record Move : Type 0 where
  pub after : Drive
  -- the lines that are written
  pub lines : List ℕ
  -- the keys of the events that are asked
  pub asked : List Key
  -- the answers that are taken, each with the line that it was read from
  pub taken : List (List ℕ × List Action)
  pub rows : List Row
  -- the keys of the events that are over
  pub over : List Key

-- An event is asked: it waits for its answer.
abbrev pub ask : Setup → Drive → Key → Content → Move
ask s d k content = record {
  after = record { world = d.world; waiting = d.waiting ++ k ∷ []; begun = true };
  lines = line_of s (not d.begun) k content;
  asked = k ∷ [];
  taken = [];
  rows = [];
  over = [];
}

-- An event is over at once. Where it is sent a line is written.
abbrev pub pass : Setup → Drive → Key → Content → Bool → Move
pass s d k content tells =
    let outcome = outcome_by s [] d.world k content in
    record {
      after = record { world = settled d.world k outcome; waiting = d.waiting; begun = d.begun || tells };
      lines = if tells then line_of s (not d.begun) k content else [];
      asked = [];
      taken = [];
      rows = rows_of outcome;
      over = k ∷ [];
    }

-- The first event that waits is answered.
abbrev pub take : Setup → Drive → Key → Content → List Key → List ℕ → List Action → Move
take s d k content others line actions =
    let outcome = outcome_by s actions d.world k content in
    record {
      after = record { world = settled d.world k outcome; waiting = others; begun = d.begun };
      lines = [];
      asked = [];
      taken = (line, actions) ∷ [];
      rows = rows_of outcome;
      over = k ∷ [];
    }

abbrev pub move_by : Fate → Setup → Drive → Key → Content → Move
move_by Untold s d k content = pass s d k content false
move_by Told s d k content = pass s d k content true
move_by Asked s d k content = ask s d k content

-- the next event has its fate
pub record Tells (s : Setup) (least_delay : Option ℕ) (d : Drive) (m : Move) : Type 0 where
  pub key : Key
  pub content : Content
  pub next : IsNext s least_delay d key
  pub here : get d.world.pending key ≡ Some content
  pub move : m ≡ move_by (fate_of d.world key content) s d key content

-- where none may be sent, the first that waits takes the next answer
pub record Takes (s : Setup) (least_delay : Option ℕ) (d : Drive) (m : Move) : Type 0 where
  pub none : NoneMay s least_delay d
  pub key : Key
  pub others : List Key
  pub first : d.waiting ≡ key ∷ others
  pub content : Content
  pub here : get d.world.pending key ≡ Some content
  pub line : List ℕ
  pub actions : List Action
  pub answer : IsAnswer s key.to (exits_in s d.world key content) line actions
  pub move : m ≡ take s d key content others line actions

abbrev pub Moves : Setup → Option ℕ → Drive → Move → Type 0
Moves s least_delay d m = Tells s least_delay d m ⊎ Takes s least_delay d m

-- before anything is sent
abbrev pub at_first : Setup → Drive
at_first s = record { world = opening s; waiting = []; begun = false }

-- what a course of moves sent, took and wrote so far, in the order made
pub record Course : Type 0 where
  pub last : Drive
  pub lines : List ℕ
  pub asked : List Key
  pub taken : List (List ℕ × List Action)
  pub rows : List Row
  pub over : List Key

abbrev pub begun_course : Setup → Course
begun_course s = record { last = at_first s; lines = []; asked = []; taken = []; rows = []; over = [] }

abbrev pub with_move : Course → Move → Course
with_move c m = record {
  last = m.after;
  lines = c.lines ++ m.lines;
  asked = c.asked ++ m.asked;
  taken = c.taken ++ m.taken;
  rows = c.rows ++ m.rows;
  over = c.over ++ m.over;
}

-- Move by move from the beginning.
pub data IsCourse (s : Setup) (least_delay : Option ℕ) : Course → Type 0 where
  begins : IsCourse s least_delay (begun_course s)
  goes_on : (c : Course) (m : Move) → IsCourse s least_delay c → Moves s least_delay c.last m → IsCourse s least_delay (with_move c m)
