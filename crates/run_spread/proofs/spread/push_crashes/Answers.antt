use Rattle.member_timelines.proofs.Steps.{place_more}
use Rattle.run_spread.specs.Spread.{watched_crash}
use Rattle.run_spread.proofs.spread.push_crashes.Goals as goal

pub loop-number-preserved : goal.loop-number-preserved
loop-number-preserved c = place_more (watched_crash c.args.run.now.tick c.args.run.now.scenario.now c.args.run.now.tallies.now c.args.step) c.loop-number.number _ _ _ c.loop-number.invariant c.in_ok-push_watched.ensures
