use Rattle.std.proofs.Common.{Some}
use Rattle.lookahead_windows.specs.Basis.{basis_of}
use Rattle.parallel_run.proofs.run.run_into.Given as goal

abbrev pub ghosts-by_workers : goal.ghosts-by_workers
ghosts-by_workers g a = record { basis = Some (basis_of a.rounds.now); relays = a.relays.now }
