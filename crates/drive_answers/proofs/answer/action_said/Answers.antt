use Rattle.std.proofs.Common.{subst}
use Rattle.json.specs.Value.{value_view}
use Rattle.drive_answers.specs.SaidOf.{Says}
use Rattle.drive_answers.proofs.answer.action_said.Goals as goal

pub returns-in-Timer-clause-said : goal.returns-in-Timer-clause-said
returns-in-Timer-clause-said c = subst (Says (value_view c.args.item.now)) c.in-Timer.is c.requires.said

pub returns-in-Used-clause-said : goal.returns-in-Used-clause-said
returns-in-Used-clause-said c = subst (Says (value_view c.args.item.now)) c.in-Used.is c.requires.said

pub returns-in-Exit-clause-said : goal.returns-in-Exit-clause-said
returns-in-Exit-clause-said c = subst (Says (value_view c.args.item.now)) c.in-Exit.is c.requires.said
