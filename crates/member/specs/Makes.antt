-- What the parts of the handling of an event come to.
use Rattle.std.specs.Prelude.{◌≡◌, ℕ, ◌<◌, List, All, Result, OnOk, IfErr, IsErrOf}
use Rattle.scenario.specs.Setup.{member_count}
use Rattle.incarnation.specs.declared.Update.{Update}
use Rattle.streams.specs.Draw.{Words}
use Rattle.member.specs.declared.event.Effects.{Effects}
use Rattle.member.specs.declared.here.Here.{Here}
use Rattle.member.specs.declared.member.Member.{Member}
use Rattle.member.specs.declared.step_error.StepError.{StepError}
use Rattle.member.specs.declared.step_error.StepError.TheVariants.{Memory, CounterOverflow}
use Rattle.member.specs.Here.{HoldsMembers}
use Rattle.member.specs.Effects.{Effect}
use Rattle.member.specs.StateOf.{state_of, effect_of}
use Rattle.member.specs.CounterOverflow.{IsOverflowed}

-- a member of the scenario
abbrev pub IsMember : Here → ℕ → Type 0
IsMember here m = m < member_count here.scenario.now

-- updates about members of the scenario
abbrev pub AreAboutMembers : Here → List Update → Type 0
AreAboutMembers here updates = All (λ u. u.subject < member_count here.scenario.now) updates

-- the receiver of the event knows other members of the scenario alone
abbrev pub KnowsMembers : Here → Member → Type 0
KnowsMembers here m = HoldsMembers here.scenario.now here.key.to (state_of m)

-- A value is drawn, and what is left of the words is the member's.
pub record Draws {A : Type 0} (value : A) (old new : Member) (drawn : A × Words) : Type 0 where
  pub first : value ≡ drawn.0
  pub rest : state_of new ≡ record (state_of old) { words = drawn.1 }

-- A part that raises no counter makes what is wanted. It is refused for want of memory alone.
pub record IsMade {T A : Type 0} (result : Result T StepError) (made wanted : A) : Type 0 where
  pub ok : OnOk result (made ≡ wanted)
  pub memory : IfErr result (λ e. e ≡ Memory)

-- A part makes a change, and the receiver still knows members of the scenario alone; or it is refused, for want of memory or for
-- counter overflow: then the change would bring a counter past its limit.
pub record Makes (here : Here) (result : Result (Unit {0}) StepError) (old : Member) (before : Effects) (new : Member) (after : Effects) (change : Effect → Effect) : Type 0 where
  pub ok : OnOk result (effect_of new after ≡ change (effect_of old before))
  pub overflow : IsErrOf result CounterOverflow → IsOverflowed (change (effect_of old before)).state
  pub kept : OnOk result (KnowsMembers here new)
