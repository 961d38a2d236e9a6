use Rattle.std.proofs.Common.{Some}
use Rattle.test_inside.specs.Told.{one_run}
use Rattle.test_inside.proofs.bounds_tests.a_gate_may_refuse_all_but_own_bounds.Given as goal

abbrev pub ghosts-run_strictly : goal.ghosts-run_strictly
ghosts-run_strictly g a = record { run = Some (one_run a.scenario.now a.division.now) }
