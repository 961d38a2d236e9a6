use Rattle.std.proofs.Common.{[]}
use Rattle.meaning.proofs.More.{told_more}
use Rattle.meaning_json.specs.Figures.{pace_item}
use Rattle.meaning_json.proofs.figures.health_value.Goals as goal

pub loop-health-preserved : goal.loop-health-preserved
loop-health-preserved c = told_more (pace_item c.args.scenario.now) [] _ _ c.loop-health.health c.loop-health.invariant c.in_ok-push_pace.ensures
