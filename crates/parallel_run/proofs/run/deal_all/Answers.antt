use Rattle.std.proofs.Common.{◌++◌, map, ap, ◌∙◌, sym, subst, refl}
use Rattle.std.specs.List.{AllByRecursion}
use Rattle.board.specs.Posts.{dealt_at}
use Rattle.lookahead_windows.specs.Basis.{Basis, basis_of}
use Rattle.parallel_run.specs.Processes.{IsReady, begun_entry}
use Rattle.parallel_run.proofs.Dealing.{dealt_one}
use Rattle.parallel_run.proofs.WorkerEndings.{of_the_run}
use Rattle.parallel_run.proofs.run.deal_all.Goals as goal

pub deal-requires : goal.deal-requires
deal-requires g c = record {
  belongs =
      of_the_run (λ basis. IsReady g.Q.EventQueue.set basis c.in-Some.process) g.K.OfRun.basis (basis_of c.args.rounds.now) c.requires.run
      (subst (AllByRecursion (IsReady g.Q.EventQueue.set (basis_of c.args.rounds.now))) c.in-Some.ensures.steps.0 c.loop-process.invariant.ready).0;
}

pub loop-process-init : goal.loop-process-init
loop-process-init g c =
    let all = c.into_iter-process-iterator.ensures.into_iter_gives.0 in
    record {
      ready = subst (AllByRecursion (IsReady g.Q.EventQueue.set (basis_of c.args.rounds.now))) (sym all) c.requires.ready;
      dealt = ap (λ l. dealt_at c.args.post.now ++ map begun_entry l) all;
      taken = refl;
    }

pub loop-process-preserved : goal.loop-process-preserved
loop-process-preserved g c =
    let so_far = c.loop-process.invariant in
    let first = c.in-Some.ensures.steps.0 in
    record {
      ready = (subst (AllByRecursion (IsReady g.Q.EventQueue.set (basis_of c.args.rounds.now))) first so_far.ready).1;
      dealt =
          dealt_one (dealt_at c.loop-process.post) (dealt_at c.deal.new.post) (dealt_at c.args.post.now) (map begun_entry c.args.processes.items) c.next.new.self.rest.items c.in-Some.process c.loop-process.process-iterator.rest.items
          first c.in_ok-deal.ensures.dealt so_far.dealt;
      taken = c.in_ok-deal.ensures.taken ∙ so_far.taken;
    }
