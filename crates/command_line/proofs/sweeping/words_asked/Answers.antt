use Rattle.std.proofs.Common.{rules}
use Rattle.clap.specs.Words.{found_of, rows_of}
use Rattle.command_line.proofs.Sweeps.{no_file, no_table, no_sense, no_written}
use Rattle.command_line.proofs.sweeping.words_asked.Goals as goal

pub returns-in_default-clause-usage : goal.returns-in_default-clause-usage
returns-in_default-clause-usage c e wish h = no_file (rows_of (found_of c.args.sweep.now)) wish h (search rules)

pub returns-in_default-value_of-clause-usage : goal.returns-in_default-value_of-clause-usage
returns-in_default-value_of-clause-usage c e wish h = no_table (rows_of (found_of c.args.sweep.now)) wish h (search rules)

pub returns-then-not-have_sense-clause-usage : goal.returns-then-not-have_sense-clause-usage
returns-then-not-have_sense-clause-usage c e wish h = no_sense (rows_of (found_of c.args.sweep.now)) wish h (search rules)

pub returns-then-not-names_files-clause-usage : goal.returns-then-not-names_files-clause-usage
returns-then-not-names_files-clause-usage c e wish h = no_written (rows_of (found_of c.args.sweep.now)) wish h (search rules)
