use Rattle.std.proofs.Common.{◌≡◌, ◌+◌, ◌-◌, ◌*◌, ◌^◌, ◌<◌, ◌≤◌, refl, sym, subst, arith}
use Rattle.member.proofs.Doublings.{doublings_are, doubled, room}
use Rattle.member.proofs.pushes.doublings_to.Goals as goal

pub loop-reached-init : goal.loop-reached-init
loop-reached-init c = record { reached = refl; few = omega arith; before = λ some. absurd (omega (arith, some)) }

pub loop-reached-preserved : goal.loop-reached-preserved
loop-reached-preserved c =
    let inv = c.loop-reached.invariant in
    let below = c.loop-reached-test.true in
    let spare = room c.loop-reached.reached c.loop-reached.doublings c.args.members inv.reached below c.requires in
    record {
      reached = doubled c.loop-reached.reached c.loop-reached.doublings inv.reached;
      few = omega (arith, spare);
      before = λ some. subst (λ d. 32 * 2 ^ d < c.args.members) (let same : c.loop-reached.doublings ≡ c.loop-reached.doublings + 1 - 1 = omega arith in same) (subst (λ r. r < c.args.members) inv.reached below);
    }

pub loop-reached-smaller : goal.loop-reached-smaller
loop-reached-smaller c =
    let inv = c.loop-reached.invariant in
    omega (arith, room c.loop-reached.reached c.loop-reached.doublings c.args.members inv.reached c.loop-reached-test.true c.requires)

pub returns-clause-value : goal.returns-clause-value
returns-clause-value c =
    let inv = c.loop-reached.invariant in
    sym (doublings_are c.args.members c.loop-reached.doublings inv.few (subst (λ r. c.args.members ≤ r) inv.reached (omega (arith, c.loop-reached-test.false))) inv.before)
