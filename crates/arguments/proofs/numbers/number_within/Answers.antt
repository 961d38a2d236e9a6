use Rattle.std.proofs.Common.{◌≡◌, arith}
use Rattle.decimals.proofs.Numbers.{same_number}
use Rattle.arguments.proofs.numbers.number_within.Goals as goal
use Rattle.arguments.proofs.numbers.number_within.Goals.{then-number-least-via-then-number-least, then-number-least-via-else-number-least+then-number-most}

pub returns-then-number-least-clause-none : goal.returns-then-number-least-clause-none
returns-then-number-least-clause-none c _ n h =
    let low = h.low in
    let high = h.high in
    let same : n ≡ c.in_ok-number.number = same_number c.args.word.now n c.in_ok-number.number (record { written = h.written; low = omega arith }) c.in_ok-number.ensures.some in
    elim c.then-number-least.branch [
      | then-number-least-via-then-number-least w ↦ omega arith
      | then-number-least-via-else-number-least+then-number-most w ↦ omega arith
    ]
