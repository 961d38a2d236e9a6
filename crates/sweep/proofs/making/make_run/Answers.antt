use Rattle.std.proofs.Common.{◌∙◌, ◌++◌, ap, sym}
use Rattle.std.proofs.lemmas.Option.{same_Some}
use Rattle.figures.specs.Lines.{run_line}
use Rattle.line_sums.specs.Sums.{summed}
use Rattle.sweep.specs.Runs.{planned_as}
use Rattle.figures.specs.Notes.{note_cell}
use Rattle.sweep.specs.Table.{texts_of}
use Rattle.toml.specs.View.{view}
use Rattle.sweep.proofs.Steps.{no_room}
use Rattle.sweep.proofs.making.make_run.Goals as goal

pub returns : goal.returns
returns g c =
    let run = c.in_ok-run.run' in
    let read = c.in_ok-scenario.ensures in
    let figures = c.in_ok-figures.ensures in
    let note = c.in_ok-note.ensures in
    record {
      planned = read.0;
      there = read.1;
      made = record { setting = run.setting.items; scenario = c.in_ok-scenario.scenario; rows = c.in_ok-tallies.tallies; tick = c.tick_of.result };
      is = record {
        same = ap (λ p. p.setting) (same_Some (planned_as run.setting.items run.seed) read.0 (sym c.in_ok-run.ensures.run ∙ read.1));
        accepted = read.2;
        run = c.in_ok-tallies.ensures.run;
        timed = c.tick_of.ensures.is;
      };
      written = c.in_ok-line.ensures
          ∙ ap (summed c.args.key.now) (c.deref-2.ensures.value ∙ c.in_ok-body.ensures
          ∙ (λ i. note_cell (note i) ++ run_line (c.columns_of.ensures i) (texts_of (c.deref.ensures.value i)) (c.seed.ensures i) (figures i)));
      kept = note;
    }

pub returns-in_err-line : goal.returns-in_err-line
returns-in_err-line g c =
    no_room (view c.args.document.now) c.args.plan.now c.args.key.now c.args.number c.from_residual-in_err-line.result c.from_residual-in_err-line.ensures.1

pub returns-in_err-figures : goal.returns-in_err-figures
returns-in_err-figures g c =
    no_room (view c.args.document.now) c.args.plan.now c.args.key.now c.args.number c.from_residual-in_err-figures.result c.from_residual-in_err-figures.ensures.1

pub returns-in_err-note : goal.returns-in_err-note
returns-in_err-note g c =
    no_room (view c.args.document.now) c.args.plan.now c.args.key.now c.args.number c.from_residual-in_err-note.result c.from_residual-in_err-note.ensures.1

pub returns-in_err-body : goal.returns-in_err-body
returns-in_err-body g c =
    no_room (view c.args.document.now) c.args.plan.now c.args.key.now c.args.number c.from_residual-in_err-body.result c.from_residual-in_err-body.ensures.1
