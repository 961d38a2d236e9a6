-- Of an event that isn't asked no answer counts.
use Rattle.std.proofs.Common.{◌≡◌, ◌≢◌, Bool, true, false, not, nat_lt, if◌then◌else◌, [], List, Option, Some, None, ap, refl}
use Rattle.std.specs.Option.{option_map}
use Rattle.std.specs.FinMap.{get}
use Rattle.base.specs.declared.key.Key.{Key}
use Rattle.base.specs.World.{World, outcome}
use Rattle.scenario.specs.Setup.{Setup}
use Rattle.drive_events.specs.declared.content.Content.{Content}
use Rattle.drive_events.specs.declared.content.Content.TheVariants.{Start, Restart, Crash, Leave, Timer, Message}
use Rattle.drive_answers.specs.declared.action.Action.{Action}
use Rattle.drive_process.specs.declared.process.ProcessPhase.{ProcessPhase}
use Rattle.drive_process.specs.declared.process.ProcessPhase.TheVariants.{Waiting, Up, Leaving, Down}
use Rattle.drive_process.specs.Process.{Process, Effect, unchanged}
use Rattle.drive_process.specs.Acts.{all_acted}
use Rattle.drive_process.specs.Driven.{Answers, heeded, timer_ended, driven}
use Rattle.drive_world.specs.declared.fate.Fate.TheVariants.{Untold, Asked}
use Rattle.drive_world.specs.Telling.{fate_at, fate_by, fate_of}
use Rattle.drive_world.specs.Courses.{outcome_by}

-- a timer of a former process has no effect, and another one is asked
unasked_timer : (s : Setup) (k : Key) (actions : List Action) (o : Effect) (former : Bool) → (if not former then Asked else Untold) ≢ Asked
    → (if former then o else all_acted s k [] o) ≡ (if former then o else all_acted s k actions o)
unasked_timer s k actions o true other = refl
unasked_timer s k actions o false other = absurd (other refl)

unasked : (s : Setup) (k : Key) (content : Content) (phase : ProcessPhase) (actions : List Action) (o : Effect) → fate_at k content phase o.state.birth ≢ Asked
    → heeded s k content phase [] o ≡ heeded s k content phase actions o
unfolding heeded timer_ended
unasked s k Start Waiting actions o other = absurd (other refl)
unasked s k Start Up actions o other = absurd (other refl)
unasked s k Start Leaving actions o other = absurd (other refl)
unasked s k Start Down actions o other = refl
unasked s k Restart Waiting actions o other = refl
unasked s k Restart Up actions o other = absurd (other refl)
unasked s k Restart Leaving actions o other = absurd (other refl)
unasked s k Restart Down actions o other = absurd (other refl)
unasked s k Crash Waiting actions o other = refl
unasked s k Crash Up actions o other = refl
unasked s k Crash Leaving actions o other = refl
unasked s k Crash Down actions o other = refl
unasked s k Leave Waiting actions o other = refl
unasked s k Leave Up actions o other = absurd (other refl)
unasked s k Leave Leaving actions o other = refl
unasked s k Leave Down actions o other = refl
unasked s k (Timer id) Waiting actions o other = refl
unasked s k (Timer id) Up actions o other = unasked_timer s k actions o (nat_lt k.number o.state.birth) other
unasked s k (Timer id) Leaving actions o other = unasked_timer s k actions o (nat_lt k.number o.state.birth) other
unasked s k (Timer id) Down actions o other = refl
unasked s k (Message m) Waiting actions o other = refl
unasked s k (Message m) Up actions o other = absurd (other refl)
unasked s k (Message m) Leaving actions o other = absurd (other refl)
unasked s k (Message m) Down actions o other = refl

module _ (s : Setup) (answers : Answers) (k : Key) (content : Content) where
  passed_by : (held : Option Process) → fate_by k content held ≢ Asked
      → option_map (λ p. heeded s k content p.phase [] (unchanged p)) held ≡ option_map (driven s answers k content) held
  unfolding driven
  passed_by None other = refl
  passed_by (Some p) other = ap Some (unasked s k content p.phase (answers k) (unchanged p) other)

  answered_by : (held : Option Process) → option_map (λ p. heeded s k content p.phase (answers k) (unchanged p)) held ≡ option_map (driven s answers k content) held
  unfolding driven
  answered_by None = refl
  answered_by (Some p) = refl

  -- what is over at once comes to what the machine makes of it
  pub passed : (w : World Process Content) → fate_of w k content ≢ Asked → outcome_by s [] w k content ≡ outcome (driven s answers) w k content
  passed w other = passed_by (get w.members k.to) other

  -- and so does what is answered
  pub answered : (w : World Process Content) → outcome_by s (answers k) w k content ≡ outcome (driven s answers) w k content
  answered w = answered_by (get w.members k.to)
