-- How a drive halts where it is no fault: an answer is none, or nothing more can be sent to the harness.
use Rattle.std.specs.Prelude.{◌≡◌, ◌⊎◌, ◌++◌, ◌∷◌, [], ℕ, nat_eq, length, List, Option, Some, None}
use Rattle.std.specs.FinMap.{get}
use Rattle.base.specs.declared.key.Key.{Key}
use Rattle.scenario.specs.Setup.{Setup}
use Rattle.drive_world.specs.declared.ends.Halt.{Halt}
use Rattle.drive_world.specs.declared.ends.Halt.TheVariants.{Stopped, Closed}
use Rattle.drive_world.specs.declared.world.World.{World as Held}
use Rattle.drive_world.specs.Telling.{NoneMay}
use Rattle.drive_world.specs.DriveOf.{drive_of}
use Rattle.drive_world.specs.Turns.{Turns, counted}
use Rattle.drive_world.specs.WorldOf.{events_in}
use Rattle.drive_world.specs.Drives.{IsUnanswered}
use Rattle.drive_world.specs.declared.ends.Stop.{Stop}
use Rattle.drive_world.specs.declared.ends.Stop.TheVariants as stop
use Rattle.drive_world.specs.declared.harness.NoLine.{NoLine}
use Rattle.drive_world.specs.declared.harness.NoLine.TheVariants as none
use Rattle.drive_events.specs.declared.content.Content.{Content}
use Rattle.drive_events.specs.Line.{line_of}

-- None may be sent, and the first that waits has no answer: nothing has changed but what came in.
pub record IsHalted (s : Setup) (least_delay : Option ℕ) (before after : Held) (told_old told_new : List ℕ) (gave_old gave_new : List (List ℕ)) : Type 0 where
  pub none : NoneMay s least_delay (drive_of before)
  pub same : after ≡ before
  pub told : told_new ≡ told_old
  pub behind : List (List ℕ)
  pub gave : gave_new ≡ gave_old ++ behind

-- Where nothing more can be sent to the harness, the move is made as if these lines had been sent.
abbrev pub HaltsBy : Setup → Option ℕ → Halt → Held → Held → List ℕ → List ℕ → List (List ℕ) → List (List ℕ) → Type 0
HaltsBy s least_delay (Stopped place stop event) before after told_old told_new gave_old gave_new =
    (halted : IsHalted s least_delay before after told_old told_new gave_old gave_new)
    × (before.answers ≡ counted (length gave_old) → IsUnanswered s (drive_of before) gave_old halted.behind place stop event.items)
HaltsBy s least_delay Closed before after told_old told_new gave_old gave_new =
    IsHalted s least_delay before after told_old told_new gave_old gave_new ⊎ ((lines : List ℕ) × Turns s least_delay before after told_old lines gave_old gave_new)

-- The drive stops for want of an answer to an event of the world, whose line is given without the line feed.
abbrev pub StopsWith : Setup → Held → Key → ℕ → Stop → Option Halt → Type 0
StopsWith s w k place stop (Some (Stopped place_said stop_said event)) =
    (place_said ≡ place) × (stop_said ≡ stop)
    × ((content : Content) → get (events_in w.pending) k ≡ Some content → event.items ++ 10 ∷ [] ≡ line_of s (nat_eq place 1) k content)
StopsWith s w k place stop _ = ⊥

-- how it halts where no line came
abbrev pub HaltsFor : Setup → Held → Key → ℕ → NoLine → Option Halt → Type 0
HaltsFor s w k place none.Long halt = StopsWith s w k place stop.Long halt
HaltsFor s w k place none.Ended halt = StopsWith s w k place stop.Ended halt
HaltsFor s w k place none.Closed halt = halt ≡ Some Closed
HaltsFor s w k place none.Memory halt = ⊥

-- what a turn comes to: a move, or the drive halts
abbrev pub ComesTo : Setup → Option ℕ → Option Halt → Held → Held → List ℕ → List ℕ → List (List ℕ) → List (List ℕ) → Type 0
ComesTo s least_delay None before after told_old told_new gave_old gave_new = Turns s least_delay before after told_old told_new gave_old gave_new
ComesTo s least_delay (Some halt) before after told_old told_new gave_old gave_new = HaltsBy s least_delay halt before after told_old told_new gave_old gave_new
