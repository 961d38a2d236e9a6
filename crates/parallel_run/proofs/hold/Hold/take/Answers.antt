use Rattle.std.proofs.Common.{subst}
use Rattle.lookahead_windows.specs.Basis.{basis_of}
use Rattle.parallel_run.specs.Processes.{Belongs, IsReady}
use Rattle.parallel_run.proofs.JoiningPlaces.{all_with_one}
use Rattle.parallel_run.proofs.hold.Hold.take.Goals as goal

pub loop-post-preserved : goal.loop-post-preserved
loop-post-preserved g c =
    let belongs = subst (Belongs g.Q.EventQueue.set g.K.OfRun.basis) c.in-Some-Process.field-0-is c.in-Some-Process.ensures.item.1 in
    record {
      holds = record {
        ready =
            all_with_one (IsReady g.Q.EventQueue.set (basis_of c.args.rounds.now)) c.loop-post.self.ready.items c.keep.new.held.items c.in-Some-Process.process c.in_ok-keep-in-Some-Process.ensures.held
            c.loop-post.invariant.holds.ready (belongs (basis_of c.args.rounds.now) c.requires.run);
        waiting = c.loop-post.invariant.holds.waiting;
      };
    }
