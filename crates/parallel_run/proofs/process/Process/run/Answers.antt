use Rattle.std.proofs.Common.{◌+◌, ◌<◌, Some, ap, ◌∙◌, sym, subst, refl, arith}
use Rattle.std.specs.Box.{box_value}
use Rattle.lookahead_windows.specs.Plan.{bound_of}
use Rattle.lookahead_windows.specs.Starts.{HasRunTo}
use Rattle.lookahead_windows.specs.Basis.{basis_of, plan_of}
use Rattle.parallel_run.specs.Windows.{AfterWindow, Begins, GathersUpTo}
use Rattle.parallel_run.specs.declared.process.ProcessState.{ProcessState}
use Rattle.parallel_run.proofs.WorkerRounds.{common_passed, round_low, runs_to_bound}
use Rattle.parallel_run.proofs.process.Process.run.Goals as goal

pub overflow_add-result : goal.overflow_add-result
overflow_add-result g c =
    let own = c.args.self in
    let state = box_value own.state in
    let low = round_low g.Q.EventQueue.set (basis_of c.args.rounds.now) c.requires.rounds.basis state.lines.number own.round own.first state.part c.requires.ready.begins c.args.from c.args.rounds.now.end c.requires.pends c.requires.rounds.end in
    omega (arith, low)

pub returns-in-Ok-clause-waiting : goal.returns-in-Ok-clause-waiting
returns-in-Ok-clause-waiting g c =
    let rounds = c.args.rounds.now in
    let one = basis_of rounds in
    let own = c.args.self in
    let state = c.deref_mut.result.now in
    let here = sym c.deref_mut.ensures.value in
    let number = state.lines.number in
    let begins = subst (λ (s : ProcessState _ _ _). Begins g.Q.EventQueue.set one s.lines.number own.round own.first s.part) here c.requires.ready.begins in
    let low = subst (λ (s : ProcessState _ _ _). s.lines.number < one.deal.parts) here c.requires.ready.lines.own in
    let told = c.in-Ok.told in
    let same = sym c.in-Ok.ensures.own in
    let round = sym c.in-Ok.ensures.told.1 in
    let to = bound_of (plan_of one) (Some c.args.from) number in
    let runs = runs_to_bound g.Q.EventQueue.set one c.requires.rounds.basis number own.round own.first state.part begins low in
    record {
      from = c.in-Ok.ensures.told.0 ∙ same;
      next = ap (λ n. n + 1) round;
      window =
          subst (λ n. AfterWindow g.Q.EventQueue.set one n told.round told.least c.told.new.state.part) same
          (subst (λ n. AfterWindow g.Q.EventQueue.set one number n told.least c.told.new.state.part) round c.in-Ok.ensures.window);
      to = to;
      run =
          subst (λ n. HasRunTo (plan_of one) (told.round + 1) n to) same
          (subst (λ n. HasRunTo (plan_of one) (n + 1) number to) round (subst (λ o. HasRunTo (plan_of one) (own.round + 1) number (bound_of (plan_of one) o number)) c.requires.pends.0 runs));
      passed = common_passed rounds c.requires.rounds (Some c.args.from) c.args.from refl number c.round_bound.result low c.round_bound.ensures;
      gathered = subst (λ n. GathersUpTo one n to c.told.new.state.gathered) same c.in-Ok.ensures.gathered;
      lines = c.in-Ok.ensures.lines;
    }
