use Rattle.std.proofs.Common.{◌+◌, sym, subst, arith}
use Rattle.std.specs.Box.{box_value}
use Rattle.lookahead_windows.specs.Basis.{basis_of}
use Rattle.parallel_run.specs.declared.process.ProcessState.{ProcessState}
use Rattle.parallel_run.proofs.WorkerRounds.{round_low, own_bound_here}
use Rattle.parallel_run.proofs.hold.run_process.Goals as goal

pub overflow_add-process : goal.overflow_add-process
overflow_add-process g c =
    let own = c.args.process in
    let state = box_value own.state in
    let low = round_low g.Q.EventQueue.set (basis_of c.args.rounds.now) c.requires.rounds.basis state.lines.number own.round own.first state.part c.requires.ready.begins c.in-Some.from c.args.rounds.now.end c.in-Some.ensures.some c.requires.rounds.end in
    omega (arith, low)

pub enter-entered-requires-clause-window : goal.enter-entered-requires-clause-window
enter-entered-requires-clause-window g c _ _ =
    let own = c.args.process in
    let state = box_value own.state in
    let one = basis_of c.args.rounds.now in
    subst (λ (s : ProcessState _ _ _). g.G.Gate.awaits (own.round + 1) s.lines.number c.bound-bound.result) (sym c.deref.ensures)
    (c.requires.awaited own.round state.lines.number c.bound-bound.result c.requires.ready.lines.own
    (own_bound_here g.Q.EventQueue.set one c.requires.rounds.basis state.lines.number own.round own.first state.part c.requires.ready.begins c.requires.ready.lines.own c.in-Some.from c.args.rounds.now.end c.bound-bound.result
    c.in-Some.ensures.some c.requires.rounds.end c.bound-bound.ensures))
