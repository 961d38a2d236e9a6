use Rattle.std.proofs.Common.{rules, codes}
use Rattle.clap.specs.Words.{found_of, rows_of, subcommand_rows_of}
use Rattle.command_line.proofs.RunRows.{met_rows, check_some, check_none}
use Rattle.command_line.proofs.words.check_asked.Goals as goal

pub returns-clause-some : goal.returns-clause-some
returns-clause-some c =
    let m = c.args.matches.now in
    let rows = rows_of (found_of c.in_ok-check.check.now) in
    check_some c.value_of.result (subcommand_rows_of m) rows c.value_of.ensures (met_rows m (codes "check") rows (search rules) (search rules))

pub returns-clause-none : goal.returns-clause-none
returns-clause-none c none file h =
    let m = c.args.matches.now in
    let rows = rows_of (found_of c.in_ok-check.check.now) in
    check_none c.value_of.result (subcommand_rows_of m) rows c.value_of.ensures (search rules) none file h
