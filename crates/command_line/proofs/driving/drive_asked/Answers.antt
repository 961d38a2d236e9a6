use Rattle.std.proofs.Common.{rules, ◌≡◌, ◌∙◌, sym, ap, None, codes, false}
use Rattle.std.proofs.lemmas.Option.{none-some}
use Rattle.clap.specs.Words.{first_of, found_of, rows_of, subcommand_rows_of}
use Rattle.command_line.specs.Words.{names_files}
use Rattle.command_line.proofs.RunRows.{met_rows, same_rows}
use Rattle.command_line.proofs.driving.drive_asked.Goals as goal

pub returns-clause-some : goal.returns-clause-some
returns-clause-some c =
    let m = c.args.matches.now in
    let found = found_of c.in_ok-drive.drive.now in
    record {
      rows = rows_of found;
      met_drive = met_rows m (codes "drive") (rows_of found) (search rules) (search rules);
      file = search rules;
      trace = search rules;
      report = search rules;
      page = search rules;
      written = search rules;
    }

pub returns-in_err-file-clause-none : goal.returns-in_err-file-clause-none
returns-in_err-file-clause-none c _ drive h =
    let rows = rows_of (found_of c.in_ok-drive.drive.now) in
    let same : h.rows ≡ rows = same_rows (subcommand_rows_of c.args.matches.now) (codes "drive") rows h.rows (search rules) h.met_drive in
    let none : first_of (codes "FILE") rows ≡ None = search rules in
    none-some drive.file.now (sym none ∙ (ap (first_of (codes "FILE")) (sym same) ∙ h.file))

pub returns-in_err-trace-clause-none : goal.returns-in_err-trace-clause-none
returns-in_err-trace-clause-none c _ drive h =
    let rows = rows_of (found_of c.in_ok-drive.drive.now) in
    let same : h.rows ≡ rows = same_rows (subcommand_rows_of c.args.matches.now) (codes "drive") rows h.rows (search rules) h.met_drive in
    let none : first_of (codes "trace") rows ≡ None = search rules in
    none-some drive.trace.now (sym none ∙ (ap (first_of (codes "trace")) (sym same) ∙ h.trace))

pub returns-then-not-names_files-clause-none : goal.returns-then-not-names_files-clause-none
returns-then-not-names_files-clause-none c _ drive h =
    let rows = rows_of (found_of c.in_ok-drive.drive.now) in
    let same : h.rows ≡ rows = same_rows (subcommand_rows_of c.args.matches.now) (codes "drive") rows h.rows (search rules) h.met_drive in
    let none : names_files rows ≡ false = search rules in
    let written = ap names_files (sym same) ∙ h.written in cc
