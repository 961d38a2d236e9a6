use Rattle.std.proofs.Common.{Some, sym, subst, arith}
use Rattle.windows.specs.WorldOf.{world_of}
use Rattle.windows.specs.Wears.{OverflowsInWindow}
use Rattle.lookahead_windows.specs.Basis.{basis_of}
use Rattle.lookahead_windows.specs.Windows.{ran_in}
use Rattle.parallel_run.specs.Peers.{AreLines}
use Rattle.parallel_run.specs.Messages.{MayEndBy}
use Rattle.parallel_run.specs.Windows.{AfterWindow, CanTell, GathersUpTo}
use Rattle.parallel_run.proofs.WorkerEndings.{of_the_run, ends_by_window, handed_on}
use Rattle.parallel_run.proofs.WorkerRounds.{consistent_here, ran_round, wears_here, gathers_more}
use Rattle.parallel_run.proofs.TellingWindows.{can_tell, after_window}
use Rattle.parallel_run.proofs.process.told.Goals as goal

pub run_window-requires-clause-in_time : goal.run_window-requires-clause-in_time
run_window-requires-clause-in_time g c = omega (arith, c.requires.bound)

pub run_window-requires-clause-consistent : goal.run_window-requires-clause-consistent
run_window-requires-clause-consistent g c =
    let state = c.args.state.now in
    consistent_here g.Q.EventQueue.set (basis_of c.args.rounds.now) c.requires.rounds.basis state.lines.number c.args.window.round (Some c.args.window.from) state.part c.requires.begins

pub returns-in_err-least-clause-fault : goal.returns-in_err-least-clause-fault
returns-in_err-least-clause-fault g c =
    let rounds = c.args.rounds.now in
    let state = c.args.state.now in
    handed_on (MayEndBy (basis_of rounds)) _ _ c.from_residual.ensures.1
    (ends_by_window (basis_of rounds) _ (OverflowsInWindow rounds.cluster.scenario.now c.args.window.bound (world_of g.Q.EventQueue.set state.part))
    (λ wears.
    wears_here g.Q.EventQueue.set (basis_of rounds) c.requires.rounds.basis state.lines.number c.args.window.round (Some c.args.window.from) state.part c.requires.begins c.requires.lines.own
    (subst (λ t. OverflowsInWindow rounds.cluster.scenario.now t (world_of g.Q.EventQueue.set state.part)) c.requires.bound wears))
    c.in_err-least.ensures.fault)

pub tell-requires-clause-lines : goal.tell-requires-clause-lines
tell-requires-clause-lines g c = of_the_run (λ basis. AreLines basis c.args.state.now.lines) g.K.OfRun.basis (basis_of c.args.rounds.now) c.requires.run c.requires.lines

pub tell-requires-clause-known : goal.tell-requires-clause-known
tell-requires-clause-known g c =
    let one = basis_of c.args.rounds.now in
    let state = c.args.state.now in
    let number = state.lines.number in
    let ran = ran_in c.run_window.new.part c.args.window.bound c.run_window.new.lists c.in_ok-least.least in
    let has = ran_round g.Q.EventQueue.set one c.requires.rounds.basis number c.args.window.round (Some c.args.window.from) state.part c.requires.begins c.requires.lines.own c.args.window.bound ran c.requires.bound c.in_ok-least.ensures.ran in
    of_the_run (λ basis. CanTell basis number c.args.window.round c.in_ok-least.least ran.out) g.K.OfRun.basis one c.requires.run
    (can_tell g.Q.EventQueue.set one number c.args.window.round ran has)

pub returns-clause-window : goal.returns-clause-window
returns-clause-window g c =
    let one = basis_of c.args.rounds.now in
    let state = c.args.state.now in
    let number = state.lines.number in
    let ran = ran_in c.run_window.new.part c.args.window.bound c.run_window.new.lists c.in_ok-least.least in
    let has = ran_round g.Q.EventQueue.set one c.requires.rounds.basis number c.args.window.round (Some c.args.window.from) state.part c.requires.begins c.requires.lines.own c.args.window.bound ran c.requires.bound c.in_ok-least.ensures.ran in
    subst (λ least. AfterWindow g.Q.EventQueue.set one number c.args.window.round least ran.part) (sym c.in_ok-told.ensures.told.2)
    (after_window g.Q.EventQueue.set one number c.args.window.round ran has)

pub returns-clause-gathered : goal.returns-clause-gathered
returns-clause-gathered g c =
    let one = basis_of c.args.rounds.now in
    let state = c.args.state.now in
    let number = state.lines.number in
    let ran = ran_in c.run_window.new.part c.args.window.bound c.run_window.new.lists c.in_ok-least.least in
    let has = ran_round g.Q.EventQueue.set one c.requires.rounds.basis number c.args.window.round (Some c.args.window.from) state.part c.requires.begins c.requires.lines.own c.args.window.bound ran c.requires.bound c.in_ok-least.ensures.ran in
    subst (λ t. GathersUpTo one number t c.tell.new.gathered) c.requires.bound
    (gathers_more one c.requires.rounds.basis number g.Q.EventQueue.set c.args.window.round ran state.gathered c.tell.new.gathered c.requires.lines.own has c.tell.ensures.since c.in_ok-told.ensures.more c.requires.gathered)
