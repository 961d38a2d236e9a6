use Rattle.test_inside.specs.Told.{one_run}
use Rattle.test_inside.proofs.bounds_tests.run_strictly.Goals as goal

pub run_rings-requires-clause-windows : goal.run_rings-requires-clause-windows
run_rings-requires-clause-windows g c = λ _ _ window part bound told. (one_run c.args.scenario.now c.args.division.now, c.requires.run, told)
