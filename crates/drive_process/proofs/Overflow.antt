-- What a number at its limit makes of the definitions, whose numbers have none.
use Rattle.std.proofs.Common.{◌≡◌, ℕ, ◌≤◌, List, [], ◌∷◌, Option, Some, None, Result, Ok, Err, IsErrAnd, ap, ◌∙◌, sym, subst, arith}
use Rattle.std.specs.Result.{IsErrOf}
use Rattle.base.specs.declared.key.Key.{Key}
use Rattle.scenario.specs.Setup.{Setup}
use Rattle.trace.specs.declared.row.What.{What}
use Rattle.member.specs.declared.step_error.StepError.{StepError}
use Rattle.member.specs.declared.step_error.StepError.TheVariants.{CounterOverflow}
use Rattle.drive_events.specs.declared.content.Content.{Content}
use Rattle.drive_answers.specs.declared.action.Action.{Action}
use Rattle.drive_answers.specs.declared.action.Action.TheVariants as action
use Rattle.drive_process.specs.declared.effects.ProcessEffects.{ProcessEffects}
use Rattle.drive_process.specs.declared.process.Process.{Process as Held}
use Rattle.drive_process.specs.Process.{Effect, with_row, with_number, with_event}
use Rattle.drive_process.specs.ProcessOf.{effect_of}
use Rattle.drive_process.specs.Acts.{posted, message_of, carried, sent, acted, all_acted}
use Rattle.drive_process.specs.Makes.{IsOverflowed, Makes}

-- a part whose refusal is handed on: what it brings past the limit the whole brings past it
pub refused : {old new : Held} {before after : ProcessEffects} {change : Effect → Effect} (r : Result (Unit {0}) StepError) (e : StepError) → IsErrAnd r (λ y. y ≡ e)
    → (IsErrOf {T = Unit {0}} (Err e) CounterOverflow → IsOverflowed (change (effect_of old before)).state) → Makes r old before new after change
refused (Ok t) e gives past = absurd gives
refused (Err y) e gives past = record { ok = tt; overflow = λ is. past (let same : y ≡ CounterOverflow = cc in ap Err (sym gives ∙ same)) }

posted_grows : (s : Setup) (k : Key) (tells : What) (to value : ℕ) (content : Content) (arrival : Option ℕ) (o : Effect) → o.state.next_number ≤ (posted s k tells to value content arrival o).state.next_number
unfolding with_row with_number with_event
posted_grows s k tells to value content None o = omega arith
posted_grows s k tells to value content (Some at) o = omega arith

-- no action brings the number back
acted_grows : (s : Setup) (k : Key) (a : Action) (o : Effect) → o.state.next_number ≤ (acted s k a o).state.next_number
unfolding sent carried with_event with_row
acted_grows s k (action.Send x) o = posted_grows s k x.what x.to x.value (message_of x) _ _
acted_grows s k (action.Timer t) o = omega arith
acted_grows s k (action.Noted r) o = omega arith
acted_grows s k (action.Used words) o = omega arith
acted_grows s k action.Exit o = omega arith

all_grows : (s : Setup) (k : Key) (actions : List Action) (o : Effect) → o.state.next_number ≤ (all_acted s k actions o).state.next_number
unfolding all_acted
all_grows s k [] o = omega arith
all_grows s k (a ∷ rest) o = let first = acted_grows s k a o in let more = all_grows s k rest (acted s k a o) in omega (arith, first, more)

module _ (s : Setup) (k : Key) (all items rest : List Action) (a : Action) (first o : Effect) (same : all_acted s k all first ≡ all_acted s k items o) (left : items ≡ a ∷ rest) where
  -- what brings the number past its limit in one action does so in all
  pub acting_overflow : IsOverflowed (acted s k a o).state → IsOverflowed (all_acted s k all first).state
  unfolding all_acted
  acting_overflow past =
      subst (λ (x : Effect). IsOverflowed x.state) (sym (same ∙ ap (λ l. all_acted s k l o) left))
      (let more = all_grows s k rest (acted s k a o) in omega (arith, past, more))

  pub acting_next : (next : Effect) → next ≡ acted s k a o → all_acted s k all first ≡ all_acted s k rest next
  unfolding all_acted
  acting_next next made = same ∙ ap (λ l. all_acted s k l o) left ∙ ap (all_acted s k rest) (sym made)
