-- What a call of `step` does.
use Rattle.std.specs.Prelude.{◌≡◌, ◌++◌, map}
use Rattle.scenario.specs.Setup.{Setup}
use Rattle.member.specs.declared.event.Event.{Event}
use Rattle.member.specs.declared.event.Effects.{Effects}
use Rattle.member.specs.declared.member.Member.{Member}
use Rattle.member.specs.Step.{step}
use Rattle.member.specs.StateOf.{state_of, pair_of}

-- the member's state is that after the step, and what the step makes is appended
pub record Steps (s : Setup) (event : Event) (old new : Member) (before after : Effects) : Type 0 where
  pub state : state_of new ≡ (step s event.key event.content (state_of old)).state
  pub events : map pair_of after.events.items ≡ map pair_of before.events.items ++ (step s event.key event.content (state_of old)).events
  pub rows : after.rows.items ≡ before.rows.items ++ (step s event.key event.content (state_of old)).rows
