-- the text of the settings; where that finds no memory, the whole table is there
use Rattle.std.proofs.Common.{subst, sym}
use Rattle.std.specs.Prelude.{All}
use Rattle.goals.specs.Wants.{HasFewRuns}
use Rattle.scenario_files.proofs.Held.{on_err_of}
use Rattle.sweep_command.proofs.Few.{few_runs_each}
use Rattle.sweep_command.proofs.Printed.{printed_as}
use Rattle.sweep_command.proofs.Tables.{all_begins, marked_makes}
use Rattle.sweep_command.proofs.sweeping.write_whole.Goals as goal

pub settings_printed-requires-clause-few : goal.settings_printed-requires-clause-few
settings_printed-requires-clause-few g c = subst (All HasFewRuns) (sym c.deref-2.ensures.value) (few_runs_each _ _ _ _ _ _ _ c.requires.asked c.in_ok-settings.ensures.whole)

pub returns-clause-whole : goal.returns-clause-whole
returns-clause-whole g c = record {
  settings = c.in_ok-settings.settings.items;
  makes = marked_makes _ _ _ _ _ _ _ _ c.as_str-mark.ensures.value c.in_ok-settings.ensures.whole;
  text = printed_as _ _ _ _ _ _ _ _ _ c.columns_of-columns.ensures c.deref.ensures.value c.deref-2.ensures.value c.in_ok-lines.ensures;
}

pub returns-in_err-lines-clause-part : goal.returns-in_err-lines-clause-part
returns-in_err-lines-clause-part g c = on_err_of c.from_residual-in_err-lines.result (all_begins _ _ _ _ _ _ _ (marked_makes _ _ _ _ _ _ _ _ c.as_str-mark.ensures.value c.in_ok-settings.ensures.whole))
