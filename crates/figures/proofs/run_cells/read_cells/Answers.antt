use Rattle.std.proofs.Common.{◌==◌, ◌∙◌, length, lit<, refl}
use Rattle.std.specs.List.{slice_split}
use Rattle.std.proofs.lemmas.Iterator.Consumers.{YieldsList-end, YieldsList-turn}
use Rattle.std.proofs.lemmas.Iterator.Splits.{YieldsList-from_str_split}
use Rattle.figures.specs.Lines.{cell}
use Rattle.figures.proofs.NoNotes.{no_figures}
use Rattle.figures.proofs.run_cells.read_cells.Goals as goal

pub returns-in_default-clause-refused : goal.returns-in_default-clause-refused
returns-in_default-clause-refused c =
    let text = c.args.text.now in
    let items = YieldsList-from_str_split {s = c.into_iter-item-iterator.result} 44 text (lit< tt) (cc) (cc) (cc) in
    let turn = YieldsList-turn items c.loop-item.yielded _ c.loop-item.yielded_by _ _ c.in-Some.item c.in-Some.is c.next.ensures.steps in
    no_figures cell (slice_split (λ byte. byte == 44) text) (length c.loop-item.yielded) c.in-Some.item.now turn.0 turn.1 (c.in_default.ensures.none refl)

pub returns-clause-read : goal.returns-clause-read
returns-clause-read c =
    let text = c.args.text.now in
    let items = YieldsList-from_str_split {s = c.into_iter-item-iterator.result} 44 text (lit< tt) (cc) (cc) (cc) in
    let all = YieldsList-end items c.loop-item.yielded _ c.loop-item.yielded_by _ _ c.in-None.is c.next.ensures.steps in
    record { written = c.loop-item.invariant.written ∙ all.0; small = c.loop-item.invariant.small }
