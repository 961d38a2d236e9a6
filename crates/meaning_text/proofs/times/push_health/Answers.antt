use Rattle.meaning.proofs.More.{told_more}
use Rattle.meaning_text.specs.Lines.{health_line}
use Rattle.meaning_text.proofs.times.push_health.Goals as goal

pub loop-health-preserved : goal.loop-health-preserved
loop-health-preserved c = told_more (health_line c.args.scenario.now) _ _ _ c.loop-health.health c.loop-health.invariant c.in_ok-push_pace.ensures
