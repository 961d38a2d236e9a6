use Rattle.meaning.proofs.More.{told_more}
use Rattle.meaning_text.specs.Lines.{accusers_line}
use Rattle.meaning_text.proofs.times.push_accusers.Goals as goal

pub loop-accusers-preserved : goal.loop-accusers-preserved
loop-accusers-preserved c = told_more (accusers_line c.args.scenario.now) _ _ _ c.loop-accusers.accusers c.loop-accusers.invariant c.in_ok-push_accusers_line.ensures
