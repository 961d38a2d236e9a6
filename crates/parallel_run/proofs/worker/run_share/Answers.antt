use Rattle.lookahead_windows.specs.Basis.{basis_of}
use Rattle.parallel_run.proofs.worker.run_share.Goals as goal

pub run_to_end-requires-clause-holds : goal.run_to_end-requires-clause-holds
run_to_end-requires-clause-holds g c = λ loans lives. c.in_ok-hold.ensures.none (basis_of c.args.rounds.now)
