-- How a command that failed ends, and what users read of it.
use Rattle.std.specs.Prelude.{◌≡◌, ℕ, Bool, true, false, if◌then◌else◌, List, [], ◌∷◌, ◌++◌, Option, Result, Err, codes, string_bytes}
use Rattle.std.specs.Fmt.{decimal}
use Rattle.scenario.specs.Division.{Deal}
use Rattle.scenario.specs.declared.division.DivisionFault.{DivisionFault}
use Rattle.scenario.specs.declared.division.DivisionFault.TheVariants as division
use Rattle.clap.specs.Words.{Text}
use Rattle.base.specs.declared.fault.Fault.{Fault}
use Rattle.base.specs.declared.fault.Fault.TheVariants as fault
use Rattle.shown_names.specs.Shown.{shown_name}
use Rattle.command_line.specs.Division.{AreParts, AsksForWorkers, DivisionFails, ListFails}
use Rattle.command_line.specs.declared.words.Split.{Split}
use Rattle.command_line.specs.declared.failure.Failure.{Failure}
use Rattle.command_line.specs.declared.failure.Failure.TheVariants.{File, Usage, Preset, NoItem, Rule, Mistaken, Setting, Shards, Workers, Division, Run, Memory, Drive, Output}
use Rattle.command_line.specs.declared.answers.AnswerFault.{AnswerFault}
use Rattle.command_line.specs.declared.answers.AnswerFault.TheVariants as answer
use Rattle.command_line.specs.declared.answers.DriveStop.{DriveStop}
use Rattle.command_line.specs.declared.answers.DriveStop.TheVariants as stop
use Rattle.command_line.specs.declared.failure.ShardFault.{ShardFault}
use Rattle.command_line.specs.declared.failure.ShardFault.TheVariants as shard

-- the exit status of a drive that was stopped
abbrev pub stop_status : DriveStop → ℕ
stop_status (stop.Answer place cause event) = 6
stop_status stop.Closed = 1

-- the exit status
abbrev pub status_of : Failure → ℕ
status_of (File name) = 1
status_of Output = 1
status_of Usage = 2
status_of Preset = 2
status_of (NoItem key) = 2
status_of (Rule number) = 3
status_of (Mistaken number) = 3
status_of (Setting number swept_keys) = 3
status_of (Shards cause) = 3
status_of Workers = 4
status_of (Division cause) = 4
status_of (Run cause) = 5
status_of Memory = 5
status_of (Drive cause) = stop_status cause

-- the failure of a text that was to be explained and is refused
abbrev pub IsMistaken : Failure → Type 0
IsMistaken (Mistaken rule) = Unit {0}
IsMistaken _ = ⊥

-- the number by which users know a fault of a run
abbrev pub fault_number : Fault → ℕ
fault_number fault.Memory = 1
fault_number fault.CounterOverflow = 2
fault_number fault.Write = 3
fault_number fault.ThreadLost = 4

-- the number by which users know a fault of a division
abbrev pub division_number : DivisionFault → ℕ
division_number division.Length = 1
division_number division.PartNumber = 2
division_number division.Parts = 3

-- with which choices a setting was made, if any
abbrev pub setting_swept_keys : List ℕ → List ℕ
setting_swept_keys [] = []
setting_swept_keys swept_keys = codes " with " ++ swept_keys

-- what the message says of the shard in a file
abbrev pub shard_told : Text → List ℕ → List ℕ
shard_told name what = codes "piece " ++ shown_name name ++ what

-- why files aren't the shards of one sweep, in words
abbrev pub shard_message : ShardFault → List ℕ
shard_message (shard.NoShard name) = codes "no piece " ++ shown_name name.now
shard_message (shard.Other name) = shard_told name.now (codes " of another sweep")
shard_message (shard.Doubled name) = shard_told name.now (codes " twice")
shard_message (shard.Torn name) = shard_told name.now (codes " torn")
shard_message (shard.Older name) = shard_told name.now (codes " of an earlier version: make it again, or read it with that version")
shard_message (shard.Missing number) = codes "piece " ++ decimal number ++ codes " missing"

-- the cause for which an answer is none
abbrev pub answer_cause : AnswerFault → List ℕ
answer_cause answer.Long = codes "long"
answer_cause answer.Ended = codes "ended"
answer_cause answer.Json = codes "json"
answer_cause answer.Action = codes "action"
answer_cause answer.Member = codes "member"

-- why it is none, in words
abbrev pub answer_reason : AnswerFault → List ℕ
answer_reason answer.Long = codes "no line feed among the first 1,048,577 bytes"
answer_reason answer.Ended = codes "standard input ended, or can't be read, before the line feed"
answer_reason answer.Json = codes "the line is no JSON"
answer_reason answer.Action = codes "the line is no list of actions (docs/DRIVE.md)"
answer_reason answer.Member = codes "'to' or 'about' names no member, or 'to' the member itself"

-- which answer is none and for which cause; below it why, and the line of the event
abbrev pub answer_message : ℕ → AnswerFault → List ℕ → List ℕ
answer_message place cause event =
    codes "answer " ++ decimal place ++ codes " " ++ answer_cause cause ++ codes "\n" ++ answer_reason cause ++ codes "\n" ++ event

-- why a drive was stopped, in words
abbrev pub stop_message : DriveStop → List ℕ
stop_message (stop.Answer place cause event) = answer_message place cause (string_bytes event)
stop_message stop.Closed = codes "output"

-- what failed, in words
abbrev pub message_of : Failure → List ℕ
message_of (File name) = codes "file " ++ shown_name name.now
message_of Usage = codes "usage"
message_of Preset = codes "usage: the presets are local, lan, wan, serf, serf-wan, consul, consul-wan and swim"
message_of (NoItem key) = codes "usage: no item of " ++ string_bytes key
message_of (Rule number) = codes "scenario rule " ++ decimal number
message_of (Mistaken number) = codes "scenario rule " ++ decimal number
message_of (Setting number swept_keys) = codes "scenario rule " ++ decimal number ++ setting_swept_keys (string_bytes swept_keys)
message_of (Shards cause) = shard_message cause
message_of Workers = codes "workers"
message_of (Division cause) = codes "division V" ++ decimal (division_number cause)
message_of (Run cause) = codes "run F" ++ decimal (fault_number cause)
message_of Memory = codes "memory"
message_of (Drive cause) = stop_message cause
message_of Output = codes "output"

-- whether a drive was stopped where standard output was closed
abbrev pub is_closed : DriveStop → Bool
is_closed (stop.Answer place cause event) = false
is_closed stop.Closed = true

-- whether no line reports the failure: standard output failed
abbrev pub is_silent : Failure → Bool
is_silent Output = true
is_silent (Drive cause) = is_closed cause
is_silent (File name) = false
is_silent Usage = false
is_silent Preset = false
is_silent (NoItem key) = false
is_silent (Rule number) = false
is_silent (Mistaken number) = false
is_silent (Setting number swept_keys) = false
is_silent (Shards cause) = false
is_silent Workers = false
is_silent (Division cause) = false
is_silent (Run cause) = false
is_silent Memory = false

-- the line on standard error, with its line feed
abbrev pub failure_line : Failure → List ℕ
failure_line failure = if is_silent failure then [] else codes "swimsim: " ++ message_of failure ++ 10 ∷ []

-- no number of workers is asked for
abbrev pub RefusesWorkers : Option Text → Failure → Type 0
RefusesWorkers word Workers = (workers : ℕ) → ¬ (AsksForWorkers word workers)
RefusesWorkers word _ = ⊥

-- the words give no division of so many members, or memory was refused
abbrev pub RefusesDivision : ℕ → Split → Failure → Type 0
RefusesDivision members split (Division cause) = DivisionFails members split cause
RefusesDivision members split Memory = Unit {0}
RefusesDivision members split _ = ⊥

-- the same of the items of a list
abbrev pub RefusesList : ℕ → List Text → Failure → Type 0
RefusesList members items (Division cause) = ListFails members items cause
RefusesList members items Memory = Unit {0}
RefusesList members items _ = ⊥

-- an item is no number of a part, or memory was refused
abbrev pub RefusesItems : List Text → Failure → Type 0
RefusesItems items (Division division.PartNumber) = (numbers : List ℕ) → ¬ (AreParts items numbers)
RefusesItems items Memory = Unit {0}
RefusesItems items _ = ⊥

-- the fault of a division
abbrev pub IsFaultOf : Result Deal DivisionFault → Failure → Type 0
IsFaultOf answer (Division cause) = answer ≡ Err cause
IsFaultOf answer _ = ⊥
