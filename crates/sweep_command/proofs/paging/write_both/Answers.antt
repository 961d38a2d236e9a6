-- the table, the text of the settings, and their page
use Rattle.std.proofs.Common.{List, subst, sym, inl}
use Rattle.std.specs.Prelude.{All}
use Rattle.goals.specs.Wants.{HasFewRuns}
use Rattle.figures.specs.declared.summary.SettingSummary.{SettingSummary}
use Rattle.trace.proofs.Beginnings.{Keeps-same}
use Rattle.scenario_files.proofs.Held.{handed_on, on_err_of}
use Rattle.sweep_command.specs.Outcomes.{WritesPage}
use Rattle.sweep_command.proofs.Few.{few_runs_each}
use Rattle.sweep_command.proofs.Paged.{page_broke, table_broke}
use Rattle.sweep_command.proofs.Printed.{printed_as}
use Rattle.sweep_command.proofs.Tables.{marked_begins, marked_makes}
use Rattle.sweep_command.proofs.paging.write_both.Goals as goal

pub settings_printed-requires-clause-few : goal.settings_printed-requires-clause-few
settings_printed-requires-clause-few g c = subst (All HasFewRuns) (sym c.deref-2.ensures.value) (few_runs_each _ _ _ _ _ _ _ c.requires.asked c.in_ok-settings.ensures.whole)

pub write_page-requires-clause-few : goal.write_page-requires-clause-few
write_page-requires-clause-few g c = subst (All HasFewRuns) (sym c.deref-3.ensures.value) (few_runs_each _ _ _ _ _ _ _ c.requires.asked c.in_ok-settings.ensures.whole)

pub returns-clause-whole : goal.returns-clause-whole
returns-clause-whole g c = record {
  settings = c.in_ok-settings.settings.items;
  makes = marked_makes _ _ _ _ _ _ _ _ c.as_str-mark.ensures.value c.in_ok-settings.ensures.whole;
  text = printed_as _ _ _ _ _ _ _ _ _ c.columns_of-columns.ensures c.deref.ensures.value c.deref-2.ensures.value c.in_ok-lines.ensures;
  paged = subst (λ (l : List SettingSummary). WritesPage c.args.words.now c.args.release.now.version.now l (g.U.Sink.held c.args.page.now) (g.U.Sink.held c.write_page.new.out)) c.deref-3.ensures.value c.in_ok-write_page.ensures.whole;
}

pub returns-in_err-settings-clause-part : goal.returns-in_err-settings-clause-part
returns-in_err-settings-clause-part g c = on_err_of c.from_residual.result (table_broke _ _ _ c.args.release.now.version.now _ _ _ _ (marked_begins _ _ _ _ _ _ _ c.as_str-mark.ensures.value c.in_err-settings.ensures.part) (Keeps-same _))

pub returns-in_err-lines-clause-part : goal.returns-in_err-lines-clause-part
returns-in_err-lines-clause-part g c =
    on_err_of c.from_residual-in_err-lines.result (page_broke _ _ _ c.args.release.now.version.now _ _ _ _ _ _ c.deref-2.ensures.value
    (marked_makes _ _ _ _ _ _ _ _ c.as_str-mark.ensures.value c.in_ok-settings.ensures.whole) (inl (Keeps-same _)))

pub returns-in_err-write_page-clause-part : goal.returns-in_err-write_page-clause-part
returns-in_err-write_page-clause-part g c =
    on_err_of c.from_residual-in_err-write_page.result (page_broke _ _ _ c.args.release.now.version.now _ _ _ _ _ _ c.deref-3.ensures.value
    (marked_makes _ _ _ _ _ _ _ _ c.as_str-mark.ensures.value c.in_ok-settings.ensures.whole) c.in_err-write_page.ensures.part)

pub returns-in_err-write_page-clause-causes : goal.returns-in_err-write_page-clause-causes
returns-in_err-write_page-clause-causes g c = handed_on _ _ _ c.from_residual-in_err-write_page.ensures.1 (c.in_err-write_page.ensures.causes _ _)
