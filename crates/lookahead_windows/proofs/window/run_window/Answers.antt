use Rattle.std.proofs.Common.{◌≡◌, ◌+◌, min, Result, OnOk, refl, subst, arith}
use Rattle.member.specs.declared.step_error.StepError.{StepError}
use Rattle.windows.specs.WorldOf.{world_of}
use Rattle.windows.specs.Window.{RunsWindow}
use Rattle.lookahead_windows.specs.Windows.{IsLeastOf}
use Rattle.lookahead_windows.proofs.window.run_window.Goals as goal

pub returns-clause-ran : goal.returns-clause-ran
returns-clause-ran g c =
    let s = c.args.rounds.now.cluster.scenario.now in
    let before = world_of g.Q.EventQueue.set c.args.part.now in
    let after = world_of g.Q.EventQueue.set c.run_window-ran.new.self in
    let made = c.run_window-ran.new.made in
    let to_bound : min c.args.bound (s.end + 1) ≡ c.args.bound = omega (arith, c.requires.in_time) in
    record {
      out = made.events.items;
      until = refl;
      window = subst (λ bound. RunsWindow s bound before made.events.items made.rows.items after) to_bound
          (subst (λ (r : Result _ StepError). OnOk r (RunsWindow s (min c.args.bound (s.end + 1)) before made.events.items made.rows.items after)) c.in_ok-with_run_fault.ensures.ok c.run_window-ran.ensures.ok);
      dealt = c.in_ok-deal.ensures.dealt;
      least = subst (λ sent. IsLeastOf after sent c.least_after-least.result) c.deref.ensures.value c.least_after-least.ensures;
    }
