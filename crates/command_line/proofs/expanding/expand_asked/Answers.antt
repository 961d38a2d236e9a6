use Rattle.std.proofs.Common.{rules, ◌≡◌, ◌∙◌, sym, ap, None, codes}
use Rattle.std.proofs.lemmas.Option.{none-some}
use Rattle.clap.specs.Words.{first_of, found_of, rows_of, subcommand_rows_of}
use Rattle.command_line.proofs.RunRows.{met_rows, same_rows}
use Rattle.command_line.proofs.expanding.expand_asked.Goals as goal

pub returns-clause-some : goal.returns-clause-some
returns-clause-some c =
    let m = c.args.matches.now in
    let found = found_of c.in_ok-expand.expand.now in
    record {
      rows = rows_of found;
      met_expand = met_rows m (codes "expand") (rows_of found) (search rules) (search rules);
      named = search rules;
    }

pub returns-in_err-file-clause-none : goal.returns-in_err-file-clause-none
returns-in_err-file-clause-none c _ file h =
    let rows = rows_of (found_of c.in_ok-expand.expand.now) in
    let same : h.rows ≡ rows = same_rows (subcommand_rows_of c.args.matches.now) (codes "expand") rows h.rows (search rules) h.met_expand in
    let none : first_of (codes "FILE") rows ≡ None = search rules in
    none-some file (sym none ∙ (ap (first_of (codes "FILE")) (sym same) ∙ h.named))
