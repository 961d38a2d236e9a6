use Rattle.std.proofs.Common.{◌≡◌, ◌∷◌, ◌++◌, [], decimal, map, ap, ◌∙◌, sym, subst}
use Rattle.std.specs.Prelude.{IfOk}
use Rattle.figures.specs.Lines.{HasLaidOut, table_line, cell, claims_in_order, protocol_in_order, some_in_order}
use Rattle.figures.proofs.Fields.{long, parts_joined, cells_of_parts}
use Rattle.figures.proofs.lines.run_text.Goals as goal

pub returns : goal.returns
returns c =
    let values = map (λ value. value.now) c.args.values.now in
    let seed = decimal c.args.seed in
    let claims = claims_in_order c.args.figures.now in
    let revived = some_in_order c.args.columns c.args.figures.now in
    let protocol = protocol_in_order c.args.figures.now in
    let first =
    subst (λ those. HasLaidOut c.write_cells.new.writer ((values ++ seed ∷ []) ++ map cell those)) c.claims_in_order.ensures
    (c.in_ok-write_cells.ensures _ (c.in_ok-write_cell.ensures _ (c.in_ok-write_texts.ensures [] c.new_writer-writer.ensures))) in
    let written =
    subst (λ those. HasLaidOut c.write_cells-2.new.writer ((((values ++ seed ∷ []) ++ map cell claims) ++ map cell revived) ++ map cell those)) c.protocol_in_order.ensures
    (c.in_ok-write_cells-2.ensures _ (c.in_ok-write_some.ensures _ first)) in
    subst (λ fields. IfOk c.finish.result (λ text. text.items ≡ table_line fields))
    (parts_joined values seed (map cell claims) (map cell revived) (map cell protocol) ∙ ap (λ l. values ++ seed ∷ l) (sym (cells_of_parts claims revived protocol)))
    (c.finish.ensures _ written (long values _ _ _ _ _))
