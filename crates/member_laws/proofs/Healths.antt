-- Health, and members that wait, whatever the state.
use Rattle.std.proofs.Common.{◌≡◌, ℕ, refl, arith}
use Rattle.base.specs.declared.key.Key.{Key}
use Rattle.scenario.specs.Setup.{Setup}
use Rattle.scenario.specs.Profile.{profile_of}
use Rattle.base.specs.declared.profile.Profile.TheVariants.{Hashicorp}
use Rattle.lifeguard.specs.Health.{LocalHealth, lowered, raised}
use Rattle.member.specs.declared.event_kind.EventKind.{EventKind}
use Rattle.membership.specs.Table.{Known}
use Rattle.member.specs.declared.member.Phase.{Phase}
use Rattle.member.specs.declared.member.Phase.TheVariants.{Waiting}
use Rattle.member.specs.State.{State}
use Rattle.member.specs.Opening.{opening_state, opening_health}
use Rattle.member.specs.Step.{step}
use Rattle.member_laws.specs.Words.{WaitsAsOpened, IsWithinCeiling}
use Rattle.member_laws.proofs.Moves.{FactOf, OwnMoves, keeps_news, keeps_moves, Anyone}
use Rattle.member_laws.proofs.Walk.{on_step, on_any_step, anyone_named}

-- ---- facts of health alone

module _ (s : Setup) (k : Key) (P : LocalHealth → Type 0) (weakens : (h : LocalHealth) (failures : ℕ) → P h → P (raised h failures)) (mends : (h : LocalHealth) → P h → P (lowered h)) (fresh : profile_of s ≡ Hashicorp → P (opening_health s)) where
  abbrev Healthy : Phase → ℕ → LocalHealth → Known → Type 0
  Healthy phase number health table = P health

  health_step : (c : EventKind) (t : State) → P t.health → P (step s k c t).state.health
  unfolding opening_state
  health_step c t h =
      on_step s k Anyone (FactOf Healthy) (keeps_news s k Healthy (λ t u says h. h)) (keeps_moves s k Healthy changes) c t tt (anyone_named c) h
    where
      changes : OwnMoves s k (FactOf Healthy)
      changes = record {
        refuted = λ t claim number refutes h. h;
        weakened = λ t failures h. weakens t.health failures h;
        mended = λ t h. mends t.health h;
        welcomed = λ t h. h;
        downed = λ t h. h;
        forgotten = λ t q held rules here dead h. h;
        began = λ t waits h. h;
        late = λ t waits h. h;
        alone = λ t waits rules h. h;
        again = λ t contact rules h. fresh rules;
      }

pub within_step : (s : Setup) (k : Key) (c : EventKind) (t : State) → IsWithinCeiling t.health → IsWithinCeiling (step s k c t).state.health
within_step s k = health_step s k IsWithinCeiling (λ h n is. omega arith) (λ h is. omega arith) (λ rules. omega arith)

pub ceiling_step : (s : Setup) (k : Key) (c : EventKind) (t : State) → t.health.ceiling ≡ (opening_health s).ceiling → (step s k c t).state.health.ceiling ≡ (opening_health s).ceiling
ceiling_step s k = health_step s k (λ h. h.ceiling ≡ (opening_health s).ceiling) (λ h n is. is) (λ h is. is) (λ rules. refl)

-- by the older rules nobody starts again
pub ceiling_kept : (s : Setup) (k : Key) (c : EventKind) (t : State) → ¬ (profile_of s ≡ Hashicorp) → (step s k c t).state.health.ceiling ≡ t.health.ceiling
ceiling_kept s k c t older = health_step s k (λ h. h.ceiling ≡ t.health.ceiling) (λ h n is. is) (λ h is. is) (λ rules. absurd (older rules)) c t refl

pub within_opening : (s : Setup) (m : ℕ) → IsWithinCeiling (opening_state s m).health
unfolding opening_state
within_opening s m = omega arith

-- ---- no step leads back to waiting

abbrev Up : Phase → ℕ → LocalHealth → Known → Type 0
Up phase number health table = ¬ (phase ≡ Waiting)

up_moves : (s : Setup) (k : Key) → OwnMoves s k (FactOf Up)
up_moves s k = record {
  refuted = λ t claim number refutes h. h;
  weakened = λ t failures h. h;
  mended = λ t h. h;
  welcomed = λ t h is. absurd (let e = is in cc);
  downed = λ t h is. absurd (let e = is in cc);
  forgotten = λ t q held rules here dead h. h;
  began = λ t waits h. absurd (h waits);
  late = λ t waits h. absurd (h waits);
  alone = λ t waits rules h is. absurd (let e = is in cc);
  again = λ t contact rules h is. absurd (let e = is in cc);
}

pub waits_step : (s : Setup) (k : Key) (c : EventKind) (t : State) → WaitsAsOpened s k.to t → WaitsAsOpened s k.to (step s k c t).state
waits_step s k c t before =
    on_any_step s k Anyone (FactOf Up) (keeps_news s k Up (λ t u says h. h)) (keeps_moves s k Up (up_moves s k)) (WaitsAsOpened s k.to) c t (λ v up is. absurd (up is)) before (λ up. up)
    (λ waits is. absurd (let e = is in cc)) (λ waits is. absurd (let e = is in cc)) (λ waits rules is. absurd (let e = is in cc)) tt (anyone_named c)
