-- fewer workers end by no other faults
use Rattle.cli.proofs.Simulated.{by_fewer}
use Rattle.cli.proofs.simulation.ByThreadsSimulator.simulate.Goals as goal

pub returns-clause-threads : goal.returns-clause-threads
returns-clause-threads g c = λ is. by_fewer _ _ c.fewer-workers.ensures.few (by_fewer _ _ c.paying_workers-workers.ensures.few (c.run_shared.ensures.threads is))
