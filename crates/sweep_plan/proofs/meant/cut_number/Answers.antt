use Rattle.std.proofs.Common.{ap, is_some}
use Rattle.sweep_plan.proofs.Marks.{cut_there, digits_are, uncut}
use Rattle.sweep_plan.proofs.meant.cut_number.Goals as goal

pub returns-in_default : goal.returns-in_default
returns-in_default c = uncut c.args.name.now (rw c.in_default.is at c.rsplit_once.ensures.cases)

pub returns-in_default-number : goal.returns-in_default-number
returns-in_default-number c stem number is =
    let at = rw c.in-Some.is at c.rsplit_once.ensures.cases in
    c.number.ensures.none (ap is_some c.in_default-number.is) number
    (record { written = digits_are c.args.name.now c.in-Some.stem.now c.in-Some.digits.now at stem number is; low = is.low })

pub returns : goal.returns
returns c =
    let at = rw c.in-Some.is at c.rsplit_once.ensures.cases in
    cut_there c.args.name.now c.in-Some.stem.now c.in-Some.digits.now c.in-Some-number.number at c.in-Some-number.ensures.some.written c.in-Some-number.ensures.some.low
