-- How the end of a drive is reported.
use Rattle.std.specs.Prelude.{◌≡◌, ◌⊎◌, ℕ, List, Option, Some, None, Result, Ok, Err, string_bytes}
use Rattle.base.specs.declared.fault.Fault.TheVariants as fault
use Rattle.command_line.specs.declared.answers.AnswerFault.{AnswerFault}
use Rattle.command_line.specs.declared.answers.AnswerFault.TheVariants as answer
use Rattle.command_line.specs.declared.answers.DriveStop.{DriveStop}
use Rattle.command_line.specs.declared.answers.DriveStop.TheVariants as stopped
use Rattle.command_line.specs.declared.failure.Failure.{Failure}
use Rattle.command_line.specs.declared.failure.Failure.TheVariants.{Run, Drive}
use Rattle.drive_answers.specs.declared.error.AnswerError.{AnswerError}
use Rattle.drive_answers.specs.declared.error.AnswerError.TheVariants as none
use Rattle.drive_world.specs.declared.ends.DriveError.{DriveError}
use Rattle.drive_world.specs.declared.ends.DriveError.TheVariants as error
use Rattle.drive_world.specs.declared.ends.Stop.{Stop}
use Rattle.drive_world.specs.declared.ends.Stop.TheVariants as stop

-- the cause for which an answer is none; there is none where memory was refused
abbrev pub cause_of : Stop → Option AnswerFault
cause_of stop.Long = Some answer.Long
cause_of stop.Ended = Some answer.Ended
cause_of (stop.Answer none.Json) = Some answer.Json
cause_of (stop.Answer none.Action) = Some answer.Action
cause_of (stop.Answer none.Member) = Some answer.Member
cause_of (stop.Answer none.Memory) = None

-- an answer that is none is reported by its place, its cause and the line of its event
abbrev pub TellsAnswer : ℕ → Stop → List ℕ → DriveStop → Type 0
TellsAnswer place stop event (stopped.Answer told cause text) = (told ≡ place) × (cause_of stop ≡ Some cause) × (string_bytes text ≡ event)
TellsAnswer place stop event stopped.Closed = ⊥

-- The failure that reports an error; where memory is refused for the line of an event, the one that says that.
abbrev pub IsToldBy : DriveError → Failure → Type 0
IsToldBy (error.Stopped place stop event) failure =
    ((it : DriveStop) × (failure ≡ Drive it) × TellsAnswer place stop event.items it) ⊎ (failure ≡ Run fault.Memory)
IsToldBy error.Closed failure = failure ≡ Drive stopped.Closed
IsToldBy (error.Fault cause) failure = failure ≡ Run cause

-- the failure of a drive that ended so; where it was done, only its end couldn't be sent
abbrev pub EndsBy : Result Unit DriveError → Failure → Type 0
EndsBy (Ok _) failure = (failure ≡ Drive stopped.Closed) ⊎ (failure ≡ Run fault.Memory)
EndsBy (Err e) failure = IsToldBy e failure
