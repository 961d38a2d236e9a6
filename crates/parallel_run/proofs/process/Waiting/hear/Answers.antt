use Rattle.std.proofs.Common.{◌+◌, sym, subst}
use Rattle.lookahead_windows.specs.Starts.{HasRunTo}
use Rattle.lookahead_windows.specs.Basis.{basis_of, plan_of}
use Rattle.parallel_run.specs.Windows.{Begins, GathersUpTo, GathersSoFar}
use Rattle.parallel_run.specs.declared.process.ProcessState.{ProcessState}
use Rattle.parallel_run.proofs.process.Waiting.hear.Goals as goal

pub returns-in-Ok-clause-ready : goal.returns-in-Ok-clause-ready
returns-in-Ok-clause-ready g c =
    let one = basis_of c.args.rounds.now in
    let own = c.args.self in
    let number = c.deref_mut.result.now.lines.number in
    let here = sym c.deref_mut.ensures.value in
    let same = sym c.in-Ok.ensures.own in
    let next = sym c.requires.waiting.next in
    let part = c.heard.new.state.part in
    let to = c.requires.waiting.to in
    let gathers =
    c.in-Ok.ensures.gathered to c.requires.waiting.passed (subst (λ (s : ProcessState _ _ _). GathersUpTo one s.lines.number to s.gathered) here c.requires.waiting.gathered) in
    let run = subst (λ (s : ProcessState _ _ _). HasRunTo (plan_of one) (own.told.round + 1) s.lines.number to) here c.requires.waiting.run in
    record {
      begins =
          subst (λ n. Begins g.Q.EventQueue.set one n own.next c.in-Ok.heard.first part) same
          (subst (λ n. Begins g.Q.EventQueue.set one number n c.in-Ok.heard.first part) next c.in-Ok.ensures.next);
      gathered =
          subst (λ n. GathersSoFar one n own.next c.heard.new.state.gathered) same
          (to, subst (λ n. HasRunTo (plan_of one) n number to) next run, gathers);
      lines = c.in-Ok.ensures.lines;
    }
