use Rattle.std.proofs.Common.{ap, is_some}
use Rattle.goals.proofs.Signs.{number_behind}
use Rattle.goals.proofs.want.Want.read.Goals as goal

pub returns-in_default-millionths-clause-none : goal.returns-in_default-millionths-clause-none
returns-in_default-millionths-clause-none c _ want is =
    c.millionths.ensures.none (ap is_some c.in_default-millionths.is) want.most
    (number_behind c.args.word.now want is c.split_once.result c.in-Some.front c.in-Some.number c.in-Some.is c.split_once.ensures.cases)
