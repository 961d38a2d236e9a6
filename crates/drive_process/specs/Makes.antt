-- What the parts of the handling of an event come to.
use Rattle.std.specs.Prelude.{◌≡◌, ◌<◌, ◌^◌, ℕ, Result, OnOk, IsErrOf}
use Rattle.scenario.specs.Setup.{member_count}
use Rattle.member.specs.declared.step_error.StepError.{StepError}
use Rattle.member.specs.declared.step_error.StepError.TheVariants.{CounterOverflow}
use Rattle.drive_process.specs.declared.effects.ProcessEffects.{ProcessEffects}
use Rattle.drive_process.specs.declared.here.Here.{Here}
use Rattle.drive_process.specs.declared.process.Process.{Process as Held}
use Rattle.drive_process.specs.Process.{Process, Effect}
use Rattle.drive_process.specs.ProcessOf.{effect_of}

-- a number past its limit, which the definitions do not have
abbrev pub IsOverflowed : Process → Type 0
IsOverflowed p = 2 ^ 63 < p.next_number

abbrev pub IsMember : Here → ℕ → Type 0
IsMember here m = m < member_count here.scenario.now

-- A part makes a change; or it is refused, for want of memory or since the change would bring the member's number past its limit.
pub record Makes (result : Result (Unit {0}) StepError) (old : Held) (before : ProcessEffects) (new : Held) (after : ProcessEffects) (change : Effect → Effect) : Type 0 where
  pub ok : OnOk result (effect_of new after ≡ change (effect_of old before))
  pub overflow : IsErrOf result CounterOverflow → IsOverflowed (change (effect_of old before)).state
