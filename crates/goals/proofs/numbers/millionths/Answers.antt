use Rattle.std.proofs.Common.{ap, is_some}
use Rattle.goals.proofs.Parts.{no_number, no_whole}
use Rattle.goals.proofs.numbers.millionths.Goals as goal

pub returns-in_default-clause-none : goal.returns-in_default-clause-none
returns-in_default-clause-none c none n number =
    no_whole c.args.word.now n c.split_once.result c.split_once.ensures.cases c.in_default.is (c.whole_millionths.ensures.none none n) number

pub returns-in_default-number-clause-none : goal.returns-in_default-number-clause-none
returns-in_default-number-clause-none c _ n number =
    no_number c.args.word.now n c.split_once.result c.split_once.ensures.cases c.in-Some.front c.in-Some.back c.in-Some.is
    (λ whole part decimal fraction. c.number.ensures.none (ap is_some c.in_default-number.is) whole decimal) number

pub returns-in_default-fraction-clause-none : goal.returns-in_default-fraction-clause-none
returns-in_default-fraction-clause-none c _ n number =
    no_number c.args.word.now n c.split_once.result c.split_once.ensures.cases c.in-Some.front c.in-Some.back c.in-Some.is
    (λ whole part decimal fraction. c.fraction.ensures.none (ap is_some c.in_default-fraction.is) part fraction) number
