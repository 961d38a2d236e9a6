use Rattle.std.proofs.Common.{[]}
use Rattle.meaning.proofs.More.{told_more}
use Rattle.meaning_json.specs.Figures.{suspicion_item}
use Rattle.meaning_json.proofs.figures.suspicions_value.Goals as goal

pub loop-accusers-preserved : goal.loop-accusers-preserved
loop-accusers-preserved c = told_more (suspicion_item c.args.scenario.now) [] _ _ c.loop-accusers.accusers c.loop-accusers.invariant c.in_ok-push_suspicion.ensures
