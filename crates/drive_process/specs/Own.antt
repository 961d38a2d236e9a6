-- Our own members over the protocol: an answer that says what a member's step does.
use Rattle.std.specs.Prelude.{◌≡◌, ◌⊎◌, List, [], ◌∷◌, map}
use Rattle.base.specs.declared.key.Key.{Key}
use Rattle.scenario.specs.Setup.{Setup}
use Rattle.member.specs.declared.event_kind.EventKind.{EventKind}
use Rattle.member.specs.declared.member.Phase as own_phase
use Rattle.member.specs.declared.member.Phase.TheVariants as own_phases
use Rattle.member.specs.State.{State}
use Rattle.member.specs.Step.{step}
use Rattle.drive_events.specs.declared.content.Content.{Content}
use Rattle.drive_answers.specs.declared.action.Action.{Action}
use Rattle.drive_process.specs.declared.process.ProcessPhase.{ProcessPhase}
use Rattle.drive_process.specs.declared.process.ProcessPhase.TheVariants.{Waiting, Up, Down}
use Rattle.drive_process.specs.Process.{Process, unchanged}
use Rattle.drive_process.specs.Driven.{heeded}

-- who joins runs, as the world sees it
abbrev pub phase_of : own_phase.Phase → ProcessPhase
phase_of own_phases.Waiting = Waiting
phase_of own_phases.Joining = Up
phase_of own_phases.Running = Up
phase_of own_phases.Down = Down

-- what the world keeps of a member of versions 1 to 3, which has one process
abbrev pub process_in : State → Process
process_in t = record { phase = phase_of t.phase; birth = 0; next_number = t.next_number; words = t.words }

-- events as the world has them, by a way to write contents as payloads and timers
abbrev pub written_by : (EventKind → Content) → List (Key × EventKind) → List (Key × Content)
written_by encode events = map (λ e. (e.0, encode e.1)) events

-- These events are those, but for timers of the member's own among them that ask nothing: such as of a deadline that a beat spares.
abbrev pub AreWithIdle : (Key → Content → Type 0) → List (Key × Content) → List (Key × Content) → Type 0
AreWithIdle Idle [] [] = Unit {0}
AreWithIdle Idle [] (f ∷ fs) = ⊥
AreWithIdle Idle (e ∷ es) [] = Idle e.0 e.1 × AreWithIdle Idle es []
AreWithIdle Idle (e ∷ es) (f ∷ fs) = ((e ≡ f) × AreWithIdle Idle es fs) ⊎ (Idle e.0 e.1 × AreWithIdle Idle es (f ∷ fs))

-- The answer to an event says what the member's step does: rows, sends and timers in order, and the words that it draws.
pub record Says (s : Setup) (encode : EventKind → Content) (Idle : Key → Content → Type 0) (k : Key) (content : EventKind) (t : State) (actions : List Action) : Type 0 where
  pub rows : (heeded s k (encode content) (phase_of t.phase) actions (unchanged (process_in t))).rows ≡ (step s k content t).rows
  pub state : (heeded s k (encode content) (phase_of t.phase) actions (unchanged (process_in t))).state ≡ process_in (step s k content t).state
  pub events : AreWithIdle Idle (heeded s k (encode content) (phase_of t.phase) actions (unchanged (process_in t))).events (written_by encode (step s k content t).events)
