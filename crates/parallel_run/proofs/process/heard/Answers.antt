use Rattle.std.proofs.Common.{◌≡◌, ℕ, ◌+◌, ◌∙◌, sym, subst, refl}
use Rattle.lookahead_windows.specs.Basis.{Basis, IsBasis, basis_of}
use Rattle.parallel_run.specs.Peers.{AreLines, AreOthers, numbers_of}
use Rattle.parallel_run.specs.Messages.{MayEndBy}
use Rattle.parallel_run.specs.Windows.{Begins}
use Rattle.parallel_run.proofs.WorkerEndings.{of_the_run, ends_by_sending, handed_on}
use Rattle.parallel_run.proofs.WorkerRounds.{same_lines}
use Rattle.parallel_run.proofs.process.heard.Goals as goal

pub returns-in_err-heard-clause-fault : goal.returns-in_err-heard-clause-fault
returns-in_err-heard-clause-fault g c = handed_on (MayEndBy (basis_of c.args.rounds.now)) _ _ c.from_residual.ensures.1 (c.in_err-heard.ensures.fault (basis_of c.args.rounds.now) c.requires.run)

pub returns-clause-next : goal.returns-clause-next
returns-clause-next g c =
    subst (λ n. Begins g.Q.EventQueue.set (basis_of c.args.rounds.now) n (c.args.told.round + 1) c.in_ok-heard.heard.first c.hear_all.new.part) c.requires.told
    (c.in_ok-heard.ensures.next (basis_of c.args.rounds.now) c.requires.run)
