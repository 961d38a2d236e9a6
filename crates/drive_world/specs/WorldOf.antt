-- What the parts of a drive in memory stand for.
use Rattle.std.specs.Prelude.{◌≡◌, ℕ, ◌+◌, List, [], ◌∷◌, map, Option, Some, None}
use Rattle.std.specs.Option.{option_map}
use Rattle.std.specs.Ordering.{nat_cmp}
use Rattle.std.specs.FinMap.{FinMap, from_entries, get, insert}
use Rattle.base.specs.Order.{key_cmp}
use Rattle.base.specs.World.{Outcome}
use Rattle.scenario.specs.Setup.{Setup}
use Rattle.trace.specs.declared.row.Row.{Row}
use Rattle.drive_events.specs.declared.content.Content.{Content}
use Rattle.drive_answers.specs.declared.action.Action.{Action}
use Rattle.drive_process.specs.declared.effects.ProcessEffects.{ProcessEffects}
use Rattle.drive_process.specs.declared.effects.ProcessEvent.{ProcessEvent}
use Rattle.drive_process.specs.declared.process.Process.{Process as Held}
use Rattle.drive_process.specs.Process.{Process, unchanged}
use Rattle.drive_process.specs.ProcessOf.{process_of, pair_of}
use Rattle.drive_process.specs.Driven.{heeded}
use Rattle.drive_world.specs.declared.pending.Pending.{Pending}
use Rattle.drive_world.specs.declared.processes.Processes.{Processes}

-- processes by the numbers of their members, which are counted from this one
abbrev pub processes_from : ℕ → List Held → List (ℕ × Process)
processes_from m [] = []
processes_from m (p ∷ ps) = (m, process_of p) ∷ processes_from (m + 1) ps

abbrev pub by_member : List Held → FinMap nat_cmp Process
by_member list = from_entries (processes_from 0 list)

abbrev pub members_of : Processes → FinMap nat_cmp Process
members_of processes = by_member processes.list.items

-- what the events that pend ask, by their keys
abbrev pub events_in : Pending → FinMap key_cmp Content
events_in pending = from_entries pending.contents.entries

-- what an event has made, but for the process after it
abbrev pub made_by : ProcessEffects → Process → Outcome Process Content Row
made_by effects p = record { state = p; events = map pair_of effects.events.items; rows = effects.rows.items }

-- what an event comes to among members, by these actions
abbrev pub heeded_by : Setup → ProcessEvent → List Action → FinMap nat_cmp Process → Option (Outcome Process Content Row)
heeded_by s event actions members = option_map (λ p. heeded s event.key event.content p.phase actions (unchanged p)) (get members event.key.to)

-- The receiver of an event heeds it by these actions; an event for nobody changes nothing.
pub record HeedsOne (s : Setup) (event : ProcessEvent) (actions : List Action) (before after : FinMap nat_cmp Process) (effects : ProcessEffects) : Type 0 where
  pub process : Process
  pub made : heeded_by s event actions before ≡ Some (made_by effects process)
  pub others : after ≡ insert before event.key.to process

abbrev pub Heeds : Setup → ProcessEvent → List Action → FinMap nat_cmp Process → FinMap nat_cmp Process → Option ProcessEffects → Type 0
Heeds s event actions before after None = (heeded_by s event actions before ≡ None) × (after ≡ before)
Heeds s event actions before after (Some effects) = HeedsOne s event actions before after effects
