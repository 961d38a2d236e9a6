use Rattle.std.proofs.Common.{Vec, Global, ap}
use Rattle.trace.specs.declared.row.Row.{Row}
use Rattle.lookahead_windows.specs.Basis.{IsBasis, basis_of}
use Rattle.parallel_run.proofs.WorkerEndings.{of_the_run, on_ok}
use Rattle.parallel_run.proofs.WorkerRounds.{gathers_still}
use Rattle.parallel_run.proofs.process.send_due.Goals as goal

pub returns-clause-gathered : goal.returns-clause-gathered
returns-clause-gathered g c =
    let one = basis_of c.args.rounds.now in
    on_ok c.send_lot.result _ _
    (λ sent to far gathers.
    sent one to c.requires.run far
    (gathers_still one c.requires.rounds.basis c.args.lines.now.number to c.args.gathered.now c.are_enough.new.self c.are_enough.ensures.since (ap (λ (rows : Vec Row Global). rows.items) c.are_enough.ensures.same) gathers))
    c.send_lot.ensures.gathered
