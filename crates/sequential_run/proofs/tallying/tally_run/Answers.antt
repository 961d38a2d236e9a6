use Rattle.turns.proofs.Goes.{names_run}
use Rattle.sequential_run.proofs.tallying.tally_run.Goals as goal

pub returns-clause-named : goal.returns-clause-named
returns-clause-named g c = names_run c.args.scenario.now c.end-end.ensures.sound _ c.in_ok-tallies.ensures.run
