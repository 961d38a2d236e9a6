use Rattle.std.proofs.Common.{sym, subst}
use Rattle.std.proofs.lemmas.Result.{IfErr-weaker, IfOk-weaker}
use Rattle.files.specs.Files.{Holds}
use Rattle.scenario_files.proofs.Held.{handed_on}
use Rattle.expand_command.proofs.Failures.{fails, unread}
use Rattle.expand_command.proofs.expanding.expand_file.Goals as goal

pub returns-in_err-bytes-clause-failed : goal.returns-in_err-bytes-clause-failed
returns-in_err-bytes-clause-failed g c =
    let known = g.F.Files.known c.args.files.now c.args.file.now in
    handed_on _ _ _ c.from_residual.ensures.1 (unread known c.args.file.now _ c.in_err-bytes.ensures.failed)

pub returns-clause-done : goal.returns-clause-done
returns-clause-done g c =
    let known = g.F.Files.known c.args.files.now c.args.file.now in
    let holds = subst (Holds known) (sym c.as_slice.ensures.value) c.in_ok-bytes.ensures.read in
    IfOk-weaker c.plain_text_of.result _ _ (λ text stands. (c.as_slice.result.now, holds, stands)) c.plain_text_of.ensures.text

pub returns-clause-failed : goal.returns-clause-failed
returns-clause-failed g c =
    let known = g.F.Files.known c.args.files.now c.args.file.now in
    let holds = subst (Holds known) (sym c.as_slice.ensures.value) c.in_ok-bytes.ensures.read in
    IfErr-weaker c.plain_text_of.result _ _ (λ failure is. fails known c.args.file.now c.as_slice.result.now failure holds is) c.plain_text_of.ensures.refused
