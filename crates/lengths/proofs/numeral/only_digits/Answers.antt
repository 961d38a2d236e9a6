use Rattle.std.proofs.Common.{◌≡◌, length, refl, arith}
use Rattle.std.specs.Char.{is_ascii_digit}
use Rattle.std.specs.List.{prefix_len}
use Rattle.lengths.proofs.Numerals.{digits_pass, full_digits}
use Rattle.lengths.proofs.numeral.only_digits.Goals as goal
use Rattle.lengths.proofs.numeral.only_digits.Goals.{else-text-gt0-via-then-text-gt0+else-digits_first-text, else-text-gt0-via-else-text-gt0}

pub returns-then-digits_first-text-clause-some : goal.returns-then-digits_first-text-clause-some
returns-then-digits_first-text-clause-some c =
    let full : prefix_len is_ascii_digit c.args.text.now ≡ length c.args.text.now = omega (arith, c.digits_first.ensures, c.if-digits_first-text.true) in
    (refl, c.if-text-gt0.true, full_digits c.args.text.now full)

pub returns-else-text-gt0-clause-none : goal.returns-else-text-gt0-clause-none
returns-else-text-gt0-clause-none c _ some all =
    let full = digits_pass c.args.text.now all in
    elim c.else-text-gt0.branch [
      | else-text-gt0-via-then-text-gt0+else-digits_first-text w ↦ omega (arith, full, w.digits_first.ensures)
      | else-text-gt0-via-else-text-gt0 w ↦ omega (arith, some)
    ]
