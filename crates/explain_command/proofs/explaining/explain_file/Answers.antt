-- the explanation of the file, which was printed
use Rattle.std.proofs.Common.{string_bytes}
use Rattle.scenario_files.proofs.Held.{handed_on}
use Rattle.explain_command.proofs.Told.{meant, mistaken, unprinted, unread}
use Rattle.explain_command.proofs.explaining.explain_file.Goals as goal

pub returns-in_err-explained-clause-failed : goal.returns-in_err-explained-clause-failed
returns-in_err-explained-clause-failed g c =
    let known = g.F.Files.known c.args.files.now c.args.words.file.now in
    handed_on _ _ _ c.from_residual.ensures.1 (unread known c.args.words _ _ _ c.in_err-explained.ensures.failed)

pub returns-in_err-print_text-clause-failed : goal.returns-in_err-print_text-clause-failed
returns-in_err-print_text-clause-failed g c =
    let known = g.F.Files.known c.args.files.now c.args.words.file.now in
    handed_on _ _ _ c.from_residual-in_err-print_text.ensures.1
    (unprinted known c.args.words _ _ _ c.in_err-print_text.ensures.failure (_, string_bytes c.in_ok-explained.explained.text, c.in_ok-explained.ensures.told))

pub returns-in-None-clause-done : goal.returns-in-None-clause-done
returns-in-None-clause-done g c =
    let known = g.F.Files.known c.args.files.now c.args.words.file.now in
    meant known c.args.words _ _ _ (string_bytes c.in_ok-explained.explained.text) _ c.in-None.is c.in_ok-explained.ensures.told c.as_str.ensures.value c.in_ok-print_text.ensures.printed

pub returns-clause-failed : goal.returns-clause-failed
returns-clause-failed g c =
    let known = g.F.Files.known c.args.files.now c.args.words.file.now in
    mistaken known c.args.words _ _ _ (string_bytes c.in_ok-explained.explained.text) _ c.in-Some.rule c.in-Some.is c.in_ok-explained.ensures.told c.as_str.ensures.value c.in_ok-print_text.ensures.printed
