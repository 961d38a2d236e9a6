-- Which event of a drive is sent next, and what is over at once.
use Rattle.std.specs.Prelude.{◌≢◌, ℕ, Bool, true, false, not, nat_lt, List, Option, Some, None, if◌then◌else◌}
use Rattle.std.specs.List.{AllByRecursion}
use Rattle.std.specs.FinMap.{get}
use Rattle.base.specs.declared.key.Key.{Key}
use Rattle.base.specs.Order.{IsBefore}
use Rattle.base.specs.World.{World}
use Rattle.base.specs.declared.profile.Profile.{Profile}
use Rattle.base.specs.declared.profile.Profile.TheVariants.{Papers, Memberlist, Hashicorp}
use Rattle.scenario.specs.Setup.{Setup}
use Rattle.scenario.specs.Profile.{profile_of}
use Rattle.windows.specs.Safe.{IsSafe}
use Rattle.drive_events.specs.declared.content.Content.{Content}
use Rattle.drive_events.specs.declared.content.Content.TheVariants.{Start, Restart, Crash, Leave, Timer}
use Rattle.drive_world.specs.declared.fate.Fate.{Fate}
use Rattle.drive_world.specs.declared.fate.Fate.TheVariants.{Untold, Told, Asked}
use Rattle.drive_process.specs.declared.process.ProcessPhase.{ProcessPhase}
use Rattle.drive_process.specs.declared.process.ProcessPhase.TheVariants.{Waiting, Up, Leaving, Down}
use Rattle.drive_process.specs.Process.{Process}

-- The state of a drive: the world, in which also what is sent pends, and the keys of what is sent and not answered, in the order sent.
pub record Drive : Type 0 where
  pub world : World Process Content
  pub waiting : List Key
  -- whether a line was sent before
  pub begun : Bool

-- who runs is sent all but timers of a former process
abbrev pub is_told_up : Key → Content → ℕ → Bool
is_told_up k (Timer id) birth = not (nat_lt k.number birth)
is_told_up k _ birth = true

-- An event is sent for a member that runs, and that of its start, or by which one that is down starts again. A second leave isn't. Others
-- are over at once, with no effect.
abbrev pub is_told_at : ProcessPhase → Key → Content → ℕ → Bool
is_told_at Waiting k Start birth = true
is_told_at Waiting k content birth = false
is_told_at Up k content birth = is_told_up k content birth
is_told_at Leaving k Leave birth = false
is_told_at Leaving k content birth = is_told_up k content birth
is_told_at Down k Restart birth = true
is_told_at Down k content birth = false

-- a crash is sent and not answered
abbrev pub is_answered : Content → Bool
is_answered Crash = false
is_answered _ = true

abbrev pub told_fate : Bool → Content → Fate
told_fate tells content = if tells then (if is_answered content then Asked else Told) else Untold

-- what becomes of a pending event that may be sent
abbrev pub fate_at : Key → Content → ProcessPhase → ℕ → Fate
fate_at k content phase birth = told_fate (is_told_at phase k content birth) content

abbrev pub fate_by : Key → Content → Option Process → Fate
fate_by k content None = Untold
fate_by k content (Some p) = fate_at k content p.phase p.birth

-- the fate of an event in a world: one for nobody isn't sent
abbrev pub fate_of : World Process Content → Key → Content → Fate
fate_of w k content = fate_by k content (get w.members k.to)

-- Whether the process that answers an event was told to leave, at the latest by this event: a new one wasn't.
abbrev pub leaves_at : ProcessPhase → Content → Bool
leaves_at Waiting content = false
leaves_at Up Leave = true
leaves_at Up content = false
leaves_at Leaving Restart = false
leaves_at Leaving content = true
leaves_at Down content = false

-- then it may exit, in version 4 of the format
abbrev pub exits_at : Profile → Content → ProcessPhase → Bool
exits_at Papers content phase = false
exits_at Memberlist content phase = false
exits_at Hashicorp content phase = leaves_at phase content

abbrev pub exits_by : Profile → Content → Option Process → Bool
exits_by profile content None = false
exits_by profile content (Some p) = exits_at profile content p.phase

abbrev pub exits_in : Setup → World Process Content → Key → Content → Bool
exits_in s w k content = exits_by (profile_of s) content (get w.members k.to)

-- An event may be sent if it is safe, and no event for its member is sent and not answered.
pub record MayBeTold (s : Setup) (least_delay : Option ℕ) (d : Drive) (k : Key) : Type 0 where
  pub safe : IsSafe s.end least_delay d.world k
  pub free : AllByRecursion (λ q. q.to ≢ k.to) d.waiting

-- Of these the one with the least key is the next.
pub record IsNext (s : Setup) (least_delay : Option ℕ) (d : Drive) (k : Key) : Type 0 where
  pub may : MayBeTold s least_delay d k
  pub least : (q : Key) → MayBeTold s least_delay d q → ¬ (IsBefore q k)

-- none may be sent
abbrev pub NoneMay : Setup → Option ℕ → Drive → Type 0
NoneMay s least_delay d = (k : Key) → ¬ (MayBeTold s least_delay d k)
