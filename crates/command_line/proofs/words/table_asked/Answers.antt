use Rattle.std.proofs.Common.{rules}
use Rattle.clap.specs.Words.{subcommand_rows_of}
use Rattle.command_line.proofs.Asking.{no_joining}
use Rattle.command_line.proofs.words.table_asked.Goals as goal

pub returns-in_err-join-clause-usage : goal.returns-in_err-join-clause-usage
returns-in_err-join-clause-usage c e =
    no_joining (subcommand_rows_of c.args.matches.now) c.in_err-join.ensures.met (c.in_err-join.ensures.usage (search rules))

pub returns-in_err-sweep_asked-in-None-2-clause-usage : goal.returns-in_err-sweep_asked-in-None-2-clause-usage
returns-in_err-sweep_asked-in-None-2-clause-usage c e = record {
  no_sweep = c.in_err-sweep_asked-in-None-2.ensures.usage (search rules);
  no_join = c.in_ok-join.ensures.none (search rules);
  no_page = c.in_ok-page-in-None.ensures.none (search rules);
}
