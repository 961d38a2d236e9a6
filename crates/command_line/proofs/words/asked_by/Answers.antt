use Rattle.std.proofs.Common.{rules, refl}
use Rattle.clap.specs.Words.{subcommand_rows_of}
use Rattle.command_line.proofs.Asking.{no_preset}
use Rattle.command_line.proofs.words.asked_by.Goals as goal

pub returns-in_err-preset-in-None-clause-preset : goal.returns-in_err-preset-in-None-clause-preset
returns-in_err-preset-in-None-clause-preset c e =
    let names = c.in_err-preset-in-None.ensures.unknown in
    (names, no_preset (subcommand_rows_of c.args.matches.now) (c.in-None.ensures.none refl) names)

pub returns-in-None-2-clause-usage : goal.returns-in-None-2-clause-usage
returns-in-None-2-clause-usage c e = record {
  no_scenario = c.in-None.ensures.none refl;
  no_init = c.in_ok-preset-in-None.ensures.none (search rules);
  no_table = c.table_asked.ensures.usage e;
}
