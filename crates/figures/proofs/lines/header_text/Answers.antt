use Rattle.std.proofs.Common.{◌≡◌, [], codes, map, subst}
use Rattle.std.specs.Prelude.{IfOk}
use Rattle.figures.specs.Lines.{table_line, claim_names, protocol_names, some_names}
use Rattle.figures.proofs.Fields.{long, parts_joined}
use Rattle.figures.proofs.lines.header_text.Goals as goal

pub returns : goal.returns
returns c =
    let keys = map (λ key. key.now) c.args.keys.now in
    let revived = some_names c.args.columns in
    let written = c.in_ok-write_texts-3.ensures _ (c.in_ok-write_some_names.ensures _ (c.in_ok-write_texts-2.ensures _ (c.in_ok-write_field.ensures _ (c.in_ok-write_texts.ensures [] c.new_writer-writer.ensures)))) in
    subst (λ fields. IfOk c.finish.result (λ text. text.items ≡ table_line fields)) (parts_joined keys (codes "seed") claim_names revived protocol_names)
    (c.finish.ensures _ written (long keys _ _ _ _ _))
