use Rattle.std.proofs.Common.{◌≡◌, ℕ, ◌+◌, ◌-◌, ◌*◌, ◌/◌, ◌<◌, ◌≤◌, ◌^◌, length, refl, sym, ap, ◌∙◌, arith}
use Rattle.std.proofs.Math.Nat.{div-one}
use Rattle.std.specs.Fmt.{decimal}
use Rattle.std.proofs.lemmas.Fmt.{decimal_nonempty}
use Rattle.base.proofs.Decimal.{length-decimal_step, length-decimal_digit, length-decimal_below}
use Rattle.base.proofs.FineLogs.{one_ten_more}
use Rattle.base.proofs.logarithm.three_leading_of.Goals as goal

pub loop-digits-init : goal.loop-digits-init
loop-digits-init c =
    let small : c.args.n < 2 ^ 32 = c.ranges.n.fits in
    let whole : c.from-digits.result * 100 / 100 ≡ c.args.n = omega (arith, c.from-digits.ensures) in
    let same : length (decimal (c.from-digits.result * 100 / 100)) ≡ length (decimal c.args.n) = ap (λ (n : ℕ). length (decimal n)) whole in
    let some = decimal_nonempty c.args.n (omega (arith, small)) in
    record {
      least = omega (arith, c.requires, c.from-digits.ensures);
      small = omega (arith, small, c.from-digits.ensures);
      taken = omega (arith, same);
      few = length-decimal_below c.args.n small;
      nonempty = omega (arith, some, same);
      left = ap (λ (m : ℕ). m * 100) c.from-digits.ensures ∙ sym (div-one (c.args.n * 100));
    }

-- a tenth without its last two digits
shifted : (n : ℕ) → n / 10 / 100 ≡ n / 100 / 10
shifted n = omega arith

pub loop-digits-preserved : goal.loop-digits-preserved
loop-digits-preserved c =
    let n = c.loop-digits.digits in
    let inv = c.loop-digits.invariant in
    let large : 1000 ≤ n = c.loop-digits-test.true in
    let shorter = length-decimal_step (n / 100) (omega (arith, large)) (omega (arith, inv.small)) in
    let some = decimal_nonempty (n / 100 / 10) (omega (arith, inv.small)) in
    let same : length (decimal (n / 10 / 100)) ≡ length (decimal (n / 100 / 10)) = ap (λ (m : ℕ). length (decimal m)) (shifted n) in
    record {
      least = omega (arith, large);
      small = omega (arith, inv.small);
      taken = omega (arith, inv.taken, shorter, same);
      few = inv.few;
      nonempty = omega (arith, some, same);
      left = ap (λ m. m / 10) inv.left ∙ sym (one_ten_more (c.args.n * 100) c.loop-digits.following);
    }

single : (c : goal.After-loop-digits) → length (decimal (c.loop-digits.digits / 100)) ≡ 1
single c = length-decimal_digit (c.loop-digits.digits / 100) (omega (arith, c.loop-digits-test.false))

pub returns-clause-following : goal.returns-clause-following
returns-clause-following c = omega (arith, single c, c.loop-digits.invariant.taken)

pub returns-clause-digits : goal.returns-clause-digits
returns-clause-digits c =
    let after : c.loop-digits.following ≡ length (decimal c.args.n) - 1 = omega (arith, single c, c.loop-digits.invariant.taken) in
    c.loop-digits.invariant.left ∙ ap (λ (k : ℕ). c.args.n * 100 / 10 ^ k) after
