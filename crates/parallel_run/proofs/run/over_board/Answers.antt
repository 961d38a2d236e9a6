use Rattle.std.proofs.Common.{Err, length, refl, sym, subst}
use Rattle.run_output.specs.Traced.{KeepsTrace}
use Rattle.run_output.proofs.Early.{unwritten}
use Rattle.parallel_run.proofs.ClosingEndings.{on_same, if_same}
use Rattle.parallel_run.proofs.Dealing.{settled_whole}
use Rattle.parallel_run.proofs.run.over_board.Goals as goal

pub returns-in-Err-clause-trace : goal.returns-in-Err-clause-trace
returns-in-Err-clause-trace g c =
    let s = c.args.rounds.now.cluster.scenario.now in
    let held = g.T.RowSink.held in
    let failed = g.T.RowSink.failed in
    let old = c.args.place.now in
    subst (λ new. KeepsTrace s (held old) (held new) (failed old) (failed new) (Err c.in-Err.fault)) (sym c.in-Err.ensures.unwritten)
    (unwritten s (held old) (failed old) (Err c.in-Err.fault) c.in-Err.fault c.requires.start.going.basis.plan.sound refl c.in-Err.ensures.fault)

pub returns-clause-trace : goal.returns-clause-trace
returns-clause-trace g c = c.closed-outcome.ensures.keeps _ _ _ _ _ c.in-Ok.ensures.trace

pub returns-clause-gathered : goal.returns-clause-gathered
returns-clause-gathered g c = if_same c.closed-outcome.result.0 c.in-Ok.ended.0 _ c.closed-outcome.ensures.same c.in-Ok.ensures.gathered

pub returns-clause-relayed : goal.returns-clause-relayed
returns-clause-relayed g c = on_same c.closed-outcome.result.0 c.in-Ok.ended.0 _ c.closed-outcome.ensures.same c.in-Ok.ensures.relayed

pub returns-clause-dealt : goal.returns-clause-dealt
returns-clause-dealt g c = settled_whole (length c.args.relays.now) c.closed-outcome.result.0 c.in-Ok.ended.0 c.in-Ok.ended.1 c.closed-outcome.result.2 c.closed-outcome.ensures.same c.in-Ok.ensures.own c.closed-outcome.ensures.balance
