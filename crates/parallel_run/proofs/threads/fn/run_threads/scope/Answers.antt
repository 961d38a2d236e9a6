use Rattle.std.proofs.Common.{length, sym, subst, refl}
use Rattle.scenario.specs.Setup.{IsSound}
use Rattle.lookahead_windows.specs.Basis.{Basis, basis_of}
use Rattle.parallel_run.specs.Writing.{MayTake}
use Rattle.run_output.proofs.Early.{unwritten}
use Rattle.parallel_run.proofs.WritingTurns.{one_basis}
use Rattle.parallel_run.proofs.threads.fn.run_threads.scope.Goals as goal

pub returns-in-Err : goal.returns-in-Err
returns-in-Err g c =
    let start = c.requires.3 in
    record {
      same = refl;
      trace = unwritten _ _ _ _ c.in-Err.fault (subst IsSound (sym start.writes.one) start.going.basis.plan.sound) refl c.in-Err.ensures;
      gathered = tt;
      back = tt;
    }

pub write_all-written-requires : goal.write_all-written-requires
write_all-written-requires g c =
    let start = c.requires.3 in
    record {
      writes = λ basis known. subst (λ (b : Basis). MayTake b c.captures.writer-scenario.now (length c.captures.writer-takers.items) c.captures.writer-tallies) (one_basis g.K.OfRun.basis (basis_of c.captures.rounds.now) basis start.run known) start.writes;
      run = (basis_of c.captures.rounds.now, start.run);
      countable = c.requires.4;
      none_gathered = c.requires.5;
    }
