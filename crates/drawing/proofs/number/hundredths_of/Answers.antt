use Rattle.std.proofs.Common.{◌≡◌, ℕ, ◌*◌, ◌/◌, ◌<◌, ◌≤◌, ◌∙◌, sym, arith}
use Rattle.std.proofs.Math.Nat.{div-le_of_le-mul, mul-le-mul_right, le_of_lt}
use Rattle.std.proofs.lemmas.Bool.{cond-true, cond-false, le-leb, lt-leb}
use Rattle.drawing.specs.Numbers.{hundredths}
use Rattle.drawing.proofs.number.hundredths_of.Goals as goal

-- a part is less than the whole
part_within : (value most : ℕ) → value < most → value * 10000 / most ≤ 10000
part_within value most below = div-le_of_le-mul most (mul-le-mul_right 10000 (le_of_lt below))

pub returns-then-value-most-clause-part : goal.returns-then-value-most-clause-part
unfolding hundredths
returns-then-value-most-clause-part c = sym (cond-true _ _ _ (le-leb c.args.most c.args.value c.if-value-most.true))

pub returns-clause-part : goal.returns-clause-part
unfolding hundredths
returns-clause-part c =
    let within : c.args.value * 10000 / c.args.most ≤ 10000 = part_within c.args.value c.args.most c.if-value-most.false in
    let is : c.min.result ≡ c.args.value * 10000 / c.args.most = omega (arith, c.min.ensures, within) in
    is ∙ sym (cond-false _ _ _ (lt-leb c.args.most c.args.value c.if-value-most.false))
