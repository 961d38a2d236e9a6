-- Parts that go on from a state that is known otherwise, and tries to reach those that failed.
use Rattle.std.proofs.Common.{◌≡◌, ℕ, ◌≤◌, List, [], ◌∷◌, length, Option, Some, Result, OnOk, refl, ap, subst, ◌∙◌, arith}
use Rattle.base.specs.declared.key.Key.{Key}
use Rattle.scenario.specs.Setup.{Setup, member_count}
use Rattle.scenario.specs.declared.settings.Serf.{Serf}
use Rattle.lives.specs.Regards.{Regards, failed_among}
use Rattle.member.specs.declared.event.Effects.{Effects}
use Rattle.member.specs.declared.here.Here.{Here}
use Rattle.member.specs.declared.member.Member.{Member}
use Rattle.member.specs.declared.step_error.StepError.{StepError}
use Rattle.member.specs.CounterOverflow.{IsOverflowed}
use Rattle.member.specs.Effects.{Effect, on_state}
use Rattle.member.specs.Makes.{Makes}
use Rattle.member.specs.Reconnects.{any_tried, failed_tried, failures_reaped, reconnect_due}
use Rattle.member.specs.StateOf.{effect_of}
use Rattle.member.proofs.Times.{few_failed}

-- a part that goes on from what was made so far makes what the whole is to make
pub makes_from : {here : Here} {r : Result (Unit {0}) StepError} {old between new : Member} {before begun after : Effects} {f g : Effect → Effect}
    → f (effect_of between begun) ≡ g (effect_of old before) → Makes here r between begun new after f → Makes here r old before new after g
makes_from {r = r} {new = new} {after = after} same made = record {
  ok = subst (λ (o : Effect). OnOk r (effect_of new after ≡ o)) same made.ok;
  overflow = λ e. subst (λ (o : Effect). IsOverflowed o.state) same (made.overflow e);
  kept = made.kept;
}

module _ (s : Setup) (k : Key) (serf : Serf) where
  -- where there are any
  pub some_tried : (failed : List ℕ) (o : Effect) → (length failed ≡ 0 → ⊥) → failed_tried s k serf failed o ≡ any_tried s k serf failed o
  some_tried [] o some = absurd (some refl)
  some_tried (m ∷ failed) o some = refl

  -- those that failed are listed behind the change that forgets the oldest
  pub reconnect_tried : (settings : Option Serf) (failed : List ℕ) (o p : Effect) → Some serf ≡ settings → p ≡ on_state (failures_reaped k.at serf.reap) o
      → failed ≡ failed_among (member_count s) p.state.life.regards → any_tried s k serf failed p ≡ reconnect_due s k settings o
  unfolding reconnect_due
  reconnect_tried settings failed o p there reaped listed =
      ap (λ (l : List ℕ). any_tried s k serf l p) listed
      ∙ ap (λ (q : Effect). any_tried s k serf (failed_among (member_count s) q.state.life.regards) q) reaped
      ∙ ap (λ (it : Option Serf). reconnect_due s k it o) there

-- no more members failed than there are
pub few_listed : (failed : List ℕ) (members : ℕ) (regards : Regards) → failed ≡ failed_among members regards → length failed ≤ members
few_listed failed members regards is = omega (arith, few_failed members regards, ap length is)
