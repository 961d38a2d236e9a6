use Rattle.std.proofs.Common.{◌≡◌, refl, arith}
use Rattle.scenario.specs.Setup.{member_count}
use Rattle.member.specs.Forgetting.{all_forgotten}
use Rattle.member.proofs.ForgottenOnes.{forgotten_next, forgotten_all, forgotten_overflow}
use Rattle.member.proofs.CounterOverflow.{refused}
use Rattle.member.proofs.member.Member.forget_long_dead.Goals as goal

pub loop-number-init : goal.loop-number-init
unfolding all_forgotten
loop-number-init c = record { effect = refl; known = c.requires }

pub forget_if_long_dead-requires-clause-member : goal.forget_if_long_dead-requires-clause-member
forget_if_long_dead-requires-clause-member c = omega (arith, c.loop-number-test.true, c.members-number-end.ensures.count)

pub loop-number-preserved : goal.loop-number-preserved
loop-number-preserved c = record {
  effect = forgotten_next c.args.here.now.scenario.now c.args.here.now.key c.loop-number.number _ _ _ c.loop-number.invariant.effect c.in_ok-forget_if_long_dead.ensures.ok;
  known = c.in_ok-forget_if_long_dead.ensures.kept;
}

pub returns : goal.returns
returns c =
    let s = c.args.here.now.scenario.now in
    let k = c.args.here.now.key in
    let all : c.loop-number.number ≡ member_count s = omega (arith, c.members-number-end.ensures.count, c.loop-number.auto.number-end, c.loop-number-test.false) in
    record {
      ok = forgotten_all s k _ _ _ _ c.loop-number.invariant.effect all;
      overflow = λ h. absurd (let is = h in cc);
      kept = c.loop-number.invariant.known;
    }

pub returns-in_err-forget_if_long_dead : goal.returns-in_err-forget_if_long_dead
returns-in_err-forget_if_long_dead c =
    let s = c.args.here.now.scenario.now in
    let k = c.args.here.now.key in
    refused _ _ c.from_residual.ensures.1 (λ h. forgotten_overflow s k c.loop-number.number (member_count s) _ _ (omega (arith, c.loop-number-test.true, c.members-number-end.ensures.count))
    c.loop-number.invariant.effect (c.in_err-forget_if_long_dead.ensures.overflow h))
