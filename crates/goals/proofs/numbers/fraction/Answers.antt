use Rattle.goals.proofs.Parts.{unread}
use Rattle.goals.proofs.numbers.fraction.Goals as goal

pub returns-in-Err-clause-none : goal.returns-in-Err-clause-none
returns-in-Err-clause-none c _ part fraction = unread c.args.digits.now part c.parse.result c.in-Err.field-0 c.in-Err.is c.parse.ensures.value.0 fraction
