use Rattle.std.proofs.Common.{◌≡◌, ◌∙◌, ◌++◌, ap, map, subst}
use Rattle.std.specs.Prelude.{string_bytes, OnOk, OnErr}
use Rattle.std.specs.Io.KnownBytes.{Appends}
use Rattle.trace.specs.Sinks.{AppendsBeginning}
use Rattle.trace.proofs.Beginnings.{Appends-then, Keeps-same, beginning-first, beginning-none, beginning-then}
use Rattle.figures.specs.Lines.{run_line}
use Rattle.figures.specs.Notes.{note_cell}
use Rattle.sweep.specs.Table.{texts_of}
use Rattle.run_output.proofs.Faults.{on_err}
use Rattle.sweep.proofs.Handing.{on_ok_then, on_err_then}
use Rattle.sweep.proofs.values.write_noted.Goals as goal

pub returns-in_err-values-clause-part : goal.returns-in_err-values-clause-part
returns-in_err-values-clause-part g c =
    let old = g.S.Sink.held c.args.table.now in
    on_err c.from_residual-in_err-values.result
    (beginning-none old old (note_cell c.args.note.now ++ run_line c.args.columns (texts_of c.args.setting.now) c.args.seed c.args.figures.now) (Keeps-same old))

pub returns-in_err-write_metadata-clause-part : goal.returns-in_err-write_metadata-clause-part
returns-in_err-write_metadata-clause-part g c =
    let held = g.S.Sink.held in
    on_err c.from_residual-in_err-write_metadata.result
    (beginning-first (held c.args.table.now) (held c.write_metadata.new.sink) (note_cell c.args.note.now)
    (run_line c.args.columns (texts_of c.args.setting.now) c.args.seed c.args.figures.now) c.in_err-write_metadata.ensures.part)

pub returns-clause-whole : goal.returns-clause-whole
returns-clause-whole g c =
    let held = g.S.Sink.held in
    let same : map (λ value. value.now) c.deref-2.result.now ≡ texts_of c.args.setting.now =
    ap (map (λ value. value.now)) c.deref-2.ensures.value ∙ c.in_ok-values.ensures ∙ ap (map string_bytes) c.deref.ensures.value ∙ c.in_ok-texts.ensures in
    let run = subst (λ l. OnOk c.write_run.result (Appends (held c.write_metadata.new.sink) (held c.write_run.new.sink) (run_line c.args.columns l c.args.seed c.args.figures.now))) same c.write_run.ensures.whole in
    on_ok_then _ _ c.write_run.result run
    (Appends-then (held c.args.table.now) (held c.write_metadata.new.sink) (held c.write_run.new.sink) (note_cell c.args.note.now)
    (run_line c.args.columns (texts_of c.args.setting.now) c.args.seed c.args.figures.now) c.in_ok-write_metadata.ensures.whole)

pub returns-clause-part : goal.returns-clause-part
returns-clause-part g c =
    let held = g.S.Sink.held in
    let same : map (λ value. value.now) c.deref-2.result.now ≡ texts_of c.args.setting.now =
    ap (map (λ value. value.now)) c.deref-2.ensures.value ∙ c.in_ok-values.ensures ∙ ap (map string_bytes) c.deref.ensures.value ∙ c.in_ok-texts.ensures in
    let run = subst (λ l. OnErr c.write_run.result (AppendsBeginning (held c.write_metadata.new.sink) (held c.write_run.new.sink) (run_line c.args.columns l c.args.seed c.args.figures.now))) same c.write_run.ensures.part in
    on_err_then _ _ c.write_run.result run
    (beginning-then (held c.args.table.now) (held c.write_metadata.new.sink) (held c.write_run.new.sink) (note_cell c.args.note.now)
    (run_line c.args.columns (texts_of c.args.setting.now) c.args.seed c.args.figures.now) c.in_ok-write_metadata.ensures.whole)
