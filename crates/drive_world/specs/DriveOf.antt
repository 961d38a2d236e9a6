-- The drive that a world in memory stands for, and how it changes.
use Rattle.std.specs.Prelude.{◌≡◌, ℕ, ◌+◌, ◌<◌, ◌≤◌, ◌++◌, List, map, Option, Some, None}
use Rattle.std.specs.Option.{IfSome}
use Rattle.std.specs.FinMap.{get}
use Rattle.base.specs.declared.key.Key.{Key}
use Rattle.base.specs.World.{World, IsPending, settled, rows_of, with_events}
use Rattle.scenario.specs.Setup.{Setup, IsSound, member_count}
use Rattle.links.specs.Arrival.{AreLinksOf}
use Rattle.windows.specs.Cluster.{IsLeastDelay}
use Rattle.drive_events.specs.declared.content.Content.{Content}
use Rattle.drive_answers.specs.declared.action.Action.{Action}
use Rattle.drive_process.specs.declared.effects.ProcessEffects.{ProcessEffects}
use Rattle.drive_process.specs.Process.{Process}
use Rattle.drive_process.specs.ProcessOf.{pair_of}
use Rattle.drive_world.specs.declared.setting.Setting.{Setting}
use Rattle.drive_world.specs.declared.world.World.{World as Held}
use Rattle.drive_world.specs.declared.fate.Fate.{Fate}
use Rattle.drive_world.specs.Telling.{Drive, fate_of}
use Rattle.drive_world.specs.Courses.{outcome_by}
use Rattle.drive_world.specs.WorldOf.{members_of, events_in}

abbrev pub world_of : Held → World Process Content
world_of w = record { members = members_of w.processes; pending = events_in w.pending }

abbrev pub drive_of : Held → Drive
drive_of w = record { world = world_of w; waiting = w.waiting.keys.items; begun = w.begun }

-- the scenario is sound, and the links and the least delay are its own
pub record IsSetting (setting : Setting) : Type 0 where
  pub sound : IsSound setting.scenario.now
  pub links_are : AreLinksOf setting.links.now setting.scenario.now
  pub least : IsLeastDelay setting.scenario.now setting.least_delay

-- each event that pends is for a member, and of one
pub record IsPeopled (s : Setup) (w : World Process Content) : Type 0 where
  pub receivers : (q : Key) → IsPending w q → q.to < member_count s
  pub senders : (q : Key) → IsPending w q → q.from < member_count s

-- The moments before the bound are those up to the end that lie before the least moment that pends plus the least delay.
pub record IsSafeBound (end : ℕ) (least_delay : Option ℕ) (w : World Process Content) (bound : ℕ) : Type 0 where
  pub in_time : (at : ℕ) → at < bound → at ≤ end
  pub near : (at : ℕ) → at < bound → IfSome least_delay (λ d. (q : Key) → IsPending w q → at < q.at + d)
  pub below : (at : ℕ) → at ≤ end → IfSome least_delay (λ d. (q : Key) → IsPending w q → at < q.at + d) → at < bound

-- The event is over, by these actions, and its rows are the last ones.
pub record Settles (s : Setup) (k : Key) (content : Content) (actions : List Action) (old new : Held) : Type 0 where
  pub world : world_of new ≡ settled (world_of old) k (outcome_by s actions (world_of old) k content)
  pub rows : new.rows.items ≡ old.rows.items ++ rows_of (outcome_by s actions (world_of old) k content)

-- What an event has made pends, and its rows are the last ones.
abbrev pub Adds : Option ProcessEffects → Held → Held → Type 0
Adds None old new = (events_in new.pending ≡ events_in old.pending) × (new.rows.items ≡ old.rows.items)
Adds (Some effects) old new =
    (events_in new.pending ≡ with_events (events_in old.pending) (map pair_of effects.events.items)) × (new.rows.items ≡ old.rows.items ++ effects.rows.items)

-- an event that pends has this fate
pub record HasFate (w : Held) (k : Key) (fate : Fate) : Type 0 where
  pub content : Content
  pub here : get (events_in w.pending) k ≡ Some content
  pub is : fate ≡ fate_of (world_of w) k content
