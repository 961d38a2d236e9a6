use Rattle.std.proofs.Common.{◌≡◌, ℕ, ◌+◌, ◌≤◌, Some, sym, subst, arith}
use Rattle.std.specs.Box.{box_value}
use Rattle.lookahead_windows.specs.Starts.{IsUpTo}
use Rattle.lookahead_windows.specs.Lots.{HasLasted}
use Rattle.lookahead_windows.specs.Basis.{Basis, basis_of, plan_of}
use Rattle.parallel_run.specs.declared.process.ProcessState.{ProcessState}
use Rattle.parallel_run.specs.Windows.{GathersUpTo}
use Rattle.parallel_run.proofs.WorkerEndings.{of_the_run}
use Rattle.parallel_run.proofs.WorkerRounds.{gathers_rest, lasted_here}
use Rattle.parallel_run.proofs.process.Process.end.Goals as goal

pub send_lot-requires-clause-gathered : goal.send_lot-requires-clause-gathered
send_lot-requires-clause-gathered g c =
    let rounds = c.args.rounds.now in
    let one = basis_of rounds in
    let own = c.args.self in
    let state = box_value own.state in
    let past = subst (λ e. IsUpTo own.first (e + 1)) c.requires.rounds.end c.requires.past in
    let rest = gathers_rest g.Q.EventQueue.set one c.requires.rounds.basis state.lines.number own.round own.first state.part c.requires.ready.begins c.requires.ready.lines.own state.gathered past c.requires.ready.gathered in
    subst (λ (s : ProcessState _ _ _). (basis : Basis) → g.K.OfRun.basis ≡ Some basis → (to : ℕ) × (c.ticks.result + 1 ≤ to) × GathersUpTo basis s.lines.number to s.gathered) (sym c.into_inner-gathered.ensures)
    (of_the_run (λ basis. (to : ℕ) × (c.ticks.result + 1 ≤ to) × GathersUpTo basis state.lines.number to state.gathered) g.K.OfRun.basis one c.requires.run
    (one.setup.end + 1, omega (arith, c.ticks.ensures, c.requires.rounds.end), rest))

pub send_lot-requires-clause-lasted : goal.send_lot-requires-clause-lasted
send_lot-requires-clause-lasted g c =
    let rounds = c.args.rounds.now in
    let one = basis_of rounds in
    let own = c.args.self in
    let state = box_value own.state in
    let past = subst (λ e. IsUpTo own.first (e + 1)) c.requires.rounds.end c.requires.past in
    subst (λ (s : ProcessState _ _ _). (basis : Basis) → g.K.OfRun.basis ≡ Some basis → (c.ticks.result + 1 ≡ basis.setup.end + 1) × HasLasted (plan_of basis) s.lines.number own.round) (sym c.into_inner-gathered.ensures)
    (of_the_run (λ basis. (c.ticks.result + 1 ≡ basis.setup.end + 1) × HasLasted (plan_of basis) state.lines.number own.round) g.K.OfRun.basis one c.requires.run (
      omega (arith, c.ticks.ensures, c.requires.rounds.end),
      lasted_here g.Q.EventQueue.set one c.requires.rounds.basis state.lines.number own.round own.first state.part c.requires.ready.begins past,
    ))
