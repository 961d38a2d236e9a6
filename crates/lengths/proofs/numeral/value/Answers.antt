use Rattle.std.proofs.Common.{◌<◌, length, arith}
use Rattle.std.proofs.lemmas.Int.Digits.{digits_value_more}
use Rattle.std.proofs.lemmas.Str.{digit_value_digit}
use Rattle.lengths.proofs.Numerals.{digit_in, so_far_small}
use Rattle.lengths.proofs.numeral.value.Goals as goal

pub overflow_mul-value : goal.overflow_mul-value
overflow_mul-value c =
    let small = so_far_small c.args.digits.now c.loop-digit.digit-index c.requires.digits c.requires.few in
    omega arith

pub overflow_sub-digit : goal.overflow_sub-digit
overflow_sub-digit c =
    let low : c.loop-digit.digit-index < length c.args.digits.now = omega arith in
    let digit = digit_in c.args.digits.now c.loop-digit.digit-index c.requires.digits low in
    omega (arith, digit.0)

pub overflow_add-value : goal.overflow_add-value
overflow_add-value c =
    let small = so_far_small c.args.digits.now c.loop-digit.digit-index c.requires.digits c.requires.few in
    let low : c.loop-digit.digit-index < length c.args.digits.now = omega arith in
    let digit = digit_in c.args.digits.now c.loop-digit.digit-index c.requires.digits low in
    omega (arith, digit.0, digit.1)

pub loop-digit-preserved : goal.loop-digit-preserved
loop-digit-preserved c =
    let low : c.loop-digit.digit-index < length c.args.digits.now = omega arith in
    let range = digit_in c.args.digits.now c.loop-digit.digit-index c.requires.digits low in
    let digit = digit_value_digit _ range in
    let more = digits_value_more 10 c.args.digits.now c.loop-digit.digit-index low in
    omega (arith, digit, more, range.0)

pub returns-clause-small : goal.returns-clause-small
returns-clause-small c =
    let small = so_far_small c.args.digits.now c.loop-digit.digit-index c.requires.digits c.requires.few in
    omega arith
