-- The rows of a drive name members of the scenario.
use Rattle.std.proofs.Common.{ℕ, ◌<◌, Bool, true, false, nat_lt, if◌then◌else◌, List, [], ◌∷◌, is_none, Option, Some, None}
use Rattle.std.specs.Option.{IfSome, option_map}
use Rattle.std.specs.List.{AllByRecursion}
use Rattle.std.specs.FinMap.{get}
use Rattle.base.specs.declared.key.Key.{Key}
use Rattle.base.specs.World.{World, rows_of}
use Rattle.base.proofs.Rising.{all_append}
use Rattle.base.specs.declared.profile.Profile.{Profile}
use Rattle.base.specs.declared.profile.Profile.TheVariants.{Papers, Memberlist, Hashicorp}
use Rattle.scenario.specs.Setup.{Setup, member_count}
use Rattle.scenario.specs.Profile.{profile_of}
use Rattle.trace.specs.declared.row.What.{What}
use Rattle.trace.specs.declared.row.What.TheVariants as what
use Rattle.trace.specs.Text.{NamesMembers}
use Rattle.streams.specs.Draw.{Words}
use Rattle.drive_events.specs.declared.content.Content.{Content}
use Rattle.drive_events.specs.declared.content.Content.TheVariants.{Start, Restart, Crash, Leave, Timer, Message}
use Rattle.drive_answers.specs.declared.action.Action.{Action}
use Rattle.drive_answers.specs.declared.action.Action.TheVariants as action
use Rattle.drive_process.specs.declared.process.ProcessPhase.{ProcessPhase}
use Rattle.drive_process.specs.declared.process.ProcessPhase.TheVariants.{Waiting, Up, Leaving, Down}
use Rattle.drive_process.specs.Process.{Process, Effect, unchanged, with_row, with_event}
use Rattle.drive_process.specs.Acts.{sent_off, carried, message_of, sent, acted, all_acted}
use Rattle.drive_process.specs.Answers.{IsSoundAction, AreSoundActions}
use Rattle.drive_process.specs.Driven.{heeded, timer_ended, left_by, restarted}
use Rattle.drive_world.specs.Courses.{outcome_by}

module _ (s : Setup) (k : Key) (receiver : k.to < member_count s) (sender : k.from < member_count s) where
  abbrev AllNamed : Effect → Type 0
  AllNamed o = AllByRecursion (NamesMembers s) o.rows

  named_row : (tells : What) (about : Option ℕ) (value : ℕ) (lost : Bool) (o : Effect) → IfSome about (λ m. m < member_count s) → AllNamed o → AllNamed (with_row k tells about value lost o)
  unfolding with_row
  named_row tells about value lost o named all = all_append (NamesMembers s) o.rows _ all (record { member = receiver; from = sender; about = named }, tt)

  named_sent_off : (to : ℕ) (content : Content) (arrival : Option ℕ) (o : Effect) → AllNamed o → AllNamed (sent_off s k to content arrival o)
  unfolding with_event
  named_sent_off to content None o all = all
  named_sent_off to content (Some at) o all = all

  named_carried : (tells : What) (to value : ℕ) (content : Content) (arrival : Option ℕ × Words) (o : Effect) → to < member_count s → AllNamed o → AllNamed (carried s k tells to value content arrival o)
  unfolding carried
  named_carried tells to value content arrival o member all = named_sent_off to content arrival.0 _ (named_row tells (Some to) value (is_none arrival.0) _ member all)

  named_acted : (a : Action) (o : Effect) → IsSoundAction s k.to a → AllNamed o → AllNamed (acted s k a o)
  unfolding sent with_event
  named_acted (action.Send x) o is all = named_carried x.what x.to x.value (message_of x) _ o is.0 all
  named_acted (action.Timer t) o is all = all
  named_acted (action.Noted r) o is all = named_row r.what r.about r.value false o is.0 all
  named_acted (action.Used words) o is all = all
  named_acted action.Exit o is all = named_row what.Exit None 0 false _ tt all

  named_all : (actions : List Action) (o : Effect) → AreSoundActions s k.to actions → AllNamed o → AllNamed (all_acted s k actions o)
  unfolding all_acted
  named_all [] o are all = all
  named_all (a ∷ rest) o are all = named_all rest (acted s k a o) are.1 (named_acted a o are.0 all)

  named_choice : (b : Bool) (actions : List Action) (o : Effect) → AreSoundActions s k.to actions → AllNamed o → AllNamed (if b then o else all_acted s k actions o)
  named_choice true actions o are all = all
  named_choice false actions o are all = named_all actions o are all

  named_timer : (actions : List Action) (o : Effect) → AreSoundActions s k.to actions → AllNamed o → AllNamed (timer_ended s k actions o)
  unfolding timer_ended
  named_timer actions o are all = named_choice (nat_lt k.number o.state.birth) actions o are all

  named_left : (profile : Profile) (actions : List Action) (o : Effect) → AreSoundActions s k.to actions → AllNamed o → AllNamed (left_by profile s k actions o)
  named_left Papers actions o are all = named_all actions _ are (named_row what.Leave None 0 false o tt all)
  named_left Memberlist actions o are all = named_all actions _ are (named_row what.Leave None 0 false o tt all)
  named_left Hashicorp actions o are all = named_all actions _ are (named_row what.Leave None 0 false _ tt all)

  named_restarted : (actions : List Action) (o : Effect) → AreSoundActions s k.to actions → AllNamed o → AllNamed (restarted s k actions o)
  named_restarted actions o are all = named_all actions _ are (named_row what.Restart None 0 false _ tt all)

  named_heeded : (content : Content) (phase : ProcessPhase) (actions : List Action) (o : Effect) → AreSoundActions s k.to actions → AllNamed o → AllNamed (heeded s k content phase actions o)
  unfolding heeded
  named_heeded Start Waiting actions o are all = named_all actions _ are (named_row what.Start None 0 false _ tt all)
  named_heeded Restart Up actions o are all = named_restarted actions o are all
  named_heeded Restart Leaving actions o are all = named_restarted actions o are all
  named_heeded Restart Down actions o are all = named_restarted actions o are all
  named_heeded Crash Up actions o are all = named_row what.Crash None 0 false _ tt all
  named_heeded Crash Leaving actions o are all = named_row what.Crash None 0 false _ tt all
  named_heeded Leave Up actions o are all = named_left (profile_of s) actions o are all
  named_heeded (Timer id) Up actions o are all = named_timer actions o are all
  named_heeded (Timer id) Leaving actions o are all = named_timer actions o are all
  named_heeded (Message m) Up actions o are all = named_all actions o are all
  named_heeded (Message m) Leaving actions o are all = named_all actions o are all
  named_heeded Start Up actions o are all = all
  named_heeded Start Leaving actions o are all = all
  named_heeded Start Down actions o are all = all
  named_heeded Restart Waiting actions o are all = all
  named_heeded Crash Waiting actions o are all = all
  named_heeded Crash Down actions o are all = all
  named_heeded Leave Waiting actions o are all = all
  named_heeded Leave Leaving actions o are all = all
  named_heeded Leave Down actions o are all = all
  named_heeded (Timer id) Waiting actions o are all = all
  named_heeded (Timer id) Down actions o are all = all
  named_heeded (Message m) Waiting actions o are all = all
  named_heeded (Message m) Down actions o are all = all

  module _ (content : Content) (actions : List Action) (are : AreSoundActions s k.to actions) where
    named_by : (held : Option Process) → AllByRecursion (NamesMembers s) (rows_of (option_map (λ p. heeded s k content p.phase actions (unchanged p)) held))
    named_by None = tt
    named_by (Some p) = named_heeded content p.phase actions (unchanged p) are tt

    pub rows_named : (w : World Process Content) → AllByRecursion (NamesMembers s) (rows_of (outcome_by s actions w k content))
    rows_named w = named_by (get w.members k.to)
