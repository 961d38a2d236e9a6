use Rattle.table_rows.proofs.OneLine.{sum_behind, no_space}
use Rattle.table_rows.proofs.lines.behind_sum.Goals as goal

pub returns-clause-some : goal.returns-clause-some
returns-clause-some c = sum_behind c.args.text.now c.split_once.result c.in-Some._sum c.in-Some.rest c.in-Some.is c.split_once.ensures.cases

pub returns-in_default-clause-none : goal.returns-in_default-clause-none
returns-in_default-clause-none c = λ _. no_space c.args.text.now c.split_once.result c.in_default.is c.split_once.ensures.cases
