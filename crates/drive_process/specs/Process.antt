-- What the world of a drive keeps of a member, and what an event has made of it so far.
use Rattle.std.specs.Prelude.{ℕ, ◌+◌, Bool, [], ◌∷◌, ◌++◌, length, Option}
use Rattle.base.specs.declared.key.Key.{Key}
use Rattle.base.specs.World.{Outcome}
use Rattle.scenario.specs.Setup.{Setup, awake}
use Rattle.scenario.specs.Profile.{profile_of}
use Rattle.trace.specs.declared.row.Row.{Row}
use Rattle.trace.specs.declared.row.What.{What}
use Rattle.streams.specs.Draw.{Words, member_words}
use Rattle.member.specs.Opening.{first_number_by}
use Rattle.drive_events.specs.declared.content.Content.{Content}
use Rattle.drive_process.specs.declared.process.ProcessPhase.{ProcessPhase}
use Rattle.drive_process.specs.declared.process.ProcessPhase.TheVariants.{Waiting}

pub record Process : Type 0 where
  pub phase : ProcessPhase
  -- the number of the first event that its present process made, or would have made: timers with less are of former ones
  pub birth : ℕ
  -- the number of the next event that it makes
  pub next_number : ℕ
  -- the words that are left of its stream
  pub words : Words

-- the process after it, and the events and rows that the handling of an event has made so far
abbrev pub Effect : Type 0
Effect = Outcome Process Content Row

abbrev pub unchanged : Process → Effect
unchanged p = record { state = p; events = []; rows = [] }

abbrev pub on_process : (Process → Process) → Effect → Effect
on_process f o = record { state = f o.state; events = o.events; rows = o.rows }

abbrev pub with_phase : ProcessPhase → Process → Process
with_phase phase p = record p { phase = phase }

-- The next row of the event: it carries the event's key, and its place among the rows of the event.
unfoldable pub with_row : Key → What → Option ℕ → ℕ → Bool → Effect → Effect
with_row k tells about value lost o = record {
  state = o.state;
  events = o.events;
  rows = o.rows ++ (record { at = k.at; member = k.to; from = k.from; number = k.number; index = length o.rows; what = tells; about = about; value = value; lost = lost }) ∷ [];
}

-- A member numbers what it sends and the timers that it sets, in one order: also what is lost.
unfoldable pub with_number : Process → Process
with_number p = record p { next_number = p.next_number + 1 }

-- An event of the member's making takes the next number. What is due while its receiver is paused waits for the end of the pause.
unfoldable pub with_event : Setup → Key → ℕ → ℕ → Content → Effect → Effect
with_event s k at to content o = record {
  state = record o.state { next_number = o.state.next_number + 1 };
  events = o.events ++ ((record { at = awake s to at; to = to; from = k.to; number = o.state.next_number }), content) ∷ [];
  rows = o.rows;
}

-- ---- the world in which a drive begins

-- a member before its start
unfoldable pub opening_process : Setup → ℕ → Process
opening_process s m = record { phase = Waiting; birth = 0; next_number = first_number_by (profile_of s) s m; words = member_words s.seed m }
