use Rattle.diagnostic_text.proofs.Chosen.{first_here, first_later}
use Rattle.diagnostic_text.proofs.choice.first_of_rule.Goals as goal

pub returns-then-diagnostic-rule : goal.returns-then-diagnostic-rule
returns-then-diagnostic-rule c = first_here c.args.rule c.args.found.now c.loop-diagnostic.diagnostic-index _ c.loop-diagnostic-test.true c.if-diagnostic-rule.true c.loop-diagnostic.invariant

pub loop-diagnostic-preserved : goal.loop-diagnostic-preserved
loop-diagnostic-preserved c = first_later c.args.rule c.args.found.now c.loop-diagnostic.diagnostic-index _ c.loop-diagnostic-test.true c.if-diagnostic-rule.false c.loop-diagnostic.invariant
