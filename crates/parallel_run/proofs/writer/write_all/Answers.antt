use Rattle.std.proofs.Common.{[], ◌^◌, length, Err, sym, subst}
use Rattle.run_output.specs.Traced.{KeepsTrace}
use Rattle.run_output.proofs.Faults.{on_any}
use Rattle.parallel_run.proofs.EndingsOfRuns.{gathers}
use Rattle.parallel_run.proofs.WritingTurns.{begins, takes, ends_by, countable, names, goes_on, ends}
use Rattle.parallel_run.proofs.writer.write_all.Goals as goal

pub loop-init : goal.loop-init
loop-init g c =
    let s = c.args.scenario.now in
    let basis = c.requires.run.0 in
    let may = c.requires.writes basis c.requires.run.1 in
    record {
      goes_on = (tt, tt);
      writing =
          begins g.K.OfRun.basis s (length c.args.takers.now.items) (g.T.RowSink.held c.args.place.now) (g.T.RowSink.held c.begin-so_far.new.place) (g.T.RowSink.failed c.args.place.now) (g.T.RowSink.failed c.begin-so_far.new.place)
          c.args.tallies c.begin-so_far.result basis c.requires.run.1 may.basis_is may.one may.takers may.none_tallied (c.begin-so_far.ensures.written s) c.begin-so_far.ensures.failures;
      gathered = on_any c.begin-so_far.result (subst (g.T.RowSink.gathered c.begin-so_far.new.place s) (sym may.none_tallied) (c.begin-so_far.ensures.gathered s [] c.requires.none_gathered));
    }

pub next_turn-requires : goal.next_turn-requires
next_turn-requires g c = record { all = takes _ _ _ _ _ _ _ _ _ _ c.loop.invariant.writing }

pub returns-in-Err-clause-trace : goal.returns-in-Err-clause-trace
returns-in-Err-clause-trace g c =
    let failed = g.T.RowSink.failed in
    subst (λ fault. KeepsTrace c.args.scenario.now (g.T.RowSink.held c.args.place.now) (g.T.RowSink.held c.loop.place) (failed c.args.place.now) (failed c.loop.place) (Err fault)) (sym c.fault_beside.ensures)
    (ends_by _ _ _ _ _ _ _ _ _ _ c.loop.invariant.writing c.drained-fault.result c.drained-fault.ensures)

pub take_on-so_far-requires-clause-named : goal.take_on-so_far-requires-clause-named
take_on-so_far-requires-clause-named g c = names _ _ _ _ _ _ _ _ _ _ c.loop.invariant.writing c.in-Ok.turn c.in-Ok.ensures.next c.deref.result.now c.deref.ensures.value

pub take_on-so_far-requires-clause-countable : goal.take_on-so_far-requires-clause-countable
take_on-so_far-requires-clause-countable g c = countable _ _ _ _ _ _ _ _ _ _ c.loop.invariant.writing (2 ^ 63) c.requires.countable

pub take_on-so_far-requires-clause-gathered : goal.take_on-so_far-requires-clause-gathered
take_on-so_far-requires-clause-gathered g c = c.loop.invariant.gathered

pub returns-then-turn-clause-trace : goal.returns-then-turn-clause-trace
returns-then-turn-clause-trace g c =
    let went = c.take_on-so_far.ensures in
    ends _ _ _ _ _ _ _ _ _ _ c.loop.invariant.writing c.in-Ok.turn c.in-Ok.ensures.next _ _ _ c.take_on-so_far.result c.deref.result.now c.deref.ensures.value went.written went.failures c.if-turn.true c.ended.result c.ended.ensures.ok c.ended.ensures.err

pub returns-then-turn-clause-gathered : goal.returns-then-turn-clause-gathered
returns-then-turn-clause-gathered g c = gathers _ c.take_on-so_far.result _ c.ended.result c.take_on-so_far.ensures.gathered c.ended.ensures.ok

pub loop-preserved : goal.loop-preserved
loop-preserved g c =
    let went = c.take_on-so_far.ensures in
    record {
      goes_on = (tt, tt);
      writing =
          goes_on _ _ _ _ _ _ _ _ _ _ c.loop.invariant.writing c.in-Ok.turn c.in-Ok.ensures.next _ _ _ c.take_on-so_far.result c.deref.result.now c.deref.ensures.value went.written went.failures
          (length c.next_turn.new.takers.items) c.in-Ok.ensures.count;
      gathered = went.gathered;
    }
