-- the checks change no file
use Rattle.std.proofs.Common.{◌<◌, ℕ}
use Rattle.scenario.specs.Setup.{Setup}
use Rattle.run_command.specs.Outcomes.{EndsWithCause, MayEndRun}
use Rattle.run_command.proofs.Checked.{checked_done, checked_failed}
use Rattle.run_command.proofs.running.run.Goals as goal

pub returns-then-words-clause-done : goal.returns-then-words-clause-done
returns-then-words-clause-done g c =
    let checked = c.in_ok-prepared in
    checked_done _ c.args.words _ _ _ _ _ _ _ _ c.store_asked.result checked.ensures.passed checked.ensures.same checked.ensures.making c.store_asked.ensures.apart c.store_asked.ensures.done

pub returns-clause-done : goal.returns-clause-done
returns-clause-done g c =
    let checked = c.in_ok-prepared in
    checked_done _ c.args.words _ _ _ _ _ _ _ _ c.store_asked-2.result checked.ensures.passed checked.ensures.same checked.ensures.making c.store_asked-2.ensures.apart c.store_asked-2.ensures.done

pub returns-then-words-clause-failed : goal.returns-then-words-clause-failed
returns-then-words-clause-failed g c =
    let checked = c.in_ok-prepared in
    let ends = λ (refused : ℕ) (s : Setup) (workers : ℕ). EndsWithCause (refused < g.F.Files.refused c.store_asked.new.files) (MayEndRun s (g.M.Simulator.loses workers)) in
    checked_failed _ c.args.words _ _ _ ends _ _ _ _ _ _ _ c.store_asked.result checked.ensures.passed checked.ensures.same checked.ensures.making checked.ensures.counted c.store_asked.ensures.failed

pub returns-clause-failed : goal.returns-clause-failed
returns-clause-failed g c =
    let checked = c.in_ok-prepared in
    let ends = λ (refused : ℕ) (s : Setup) (workers : ℕ). EndsWithCause (refused < g.F.Files.refused c.store_asked-2.new.files) (MayEndRun s (g.M.Simulator.loses workers)) in
    checked_failed _ c.args.words _ _ _ ends _ _ _ _ _ _ _ c.store_asked-2.result checked.ensures.passed checked.ensures.same checked.ensures.making checked.ensures.counted c.store_asked-2.ensures.failed
