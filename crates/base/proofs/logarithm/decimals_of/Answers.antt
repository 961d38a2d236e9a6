use Rattle.std.proofs.Common.{◌-◌, ◌/◌, ◌<◌, ◌^◌, refl, sym, ap, ◌∙◌, arith}
use Rattle.std.proofs.lemmas.Fmt.{decimal_nonempty}
use Rattle.base.proofs.Decimal.{length-decimal_step, first-decimal_step, length-decimal_digit, first-decimal_digit, length-decimal_below}
use Rattle.base.proofs.logarithm.decimals_of.Goals as goal

pub loop-leading-init : goal.loop-leading-init
loop-leading-init c =
    let small : c.args.n < 2 ^ 32 = c.ranges.n.fits in
    let some = decimal_nonempty c.args.n (omega arith) in
    record {
      positive = c.requires;
      small = small;
      taken = omega arith;
      few = length-decimal_below c.args.n small;
      nonempty = omega (arith, some);
      first = refl;
    }

pub loop-leading-preserved : goal.loop-leading-preserved
loop-leading-preserved c =
    let n = c.loop-leading.leading in
    let inv = c.loop-leading.invariant in
    let shorter = length-decimal_step n c.loop-leading-test.true inv.small in
    let smaller : n / 10 < 2 ^ 64 = omega (arith, inv.small) in
    let some = decimal_nonempty (n / 10) smaller in
    record {
      positive = omega (arith, c.loop-leading-test.true);
      small = omega (arith, inv.small);
      taken = omega (arith, inv.taken, shorter);
      few = inv.few;
      nonempty = omega (arith, some);
      first = sym (first-decimal_step n c.loop-leading-test.true inv.small) ∙ inv.first;
    }

pub returns-clause-leading : goal.returns-clause-leading
returns-clause-leading c =
    sym (first-decimal_digit c.loop-leading.leading (omega (arith, c.loop-leading-test.false)))
    ∙ ap (λ b. b - 48) c.loop-leading.invariant.first

pub returns-clause-following : goal.returns-clause-following
returns-clause-following c =
    let single = length-decimal_digit c.loop-leading.leading (omega (arith, c.loop-leading-test.false)) in
    omega (arith, single, c.loop-leading.invariant.taken)
