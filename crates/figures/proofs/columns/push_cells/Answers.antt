use Rattle.std.proofs.Common.{◌<◌, length, get_or, refl, arith}
use Rattle.std.specs.String.{string_bytes}
use Rattle.figures.proofs.Cells.{cell_written}
use Rattle.figures.proofs.columns.push_cells.Goals as goal

pub loop-place-preserved : goal.loop-place-preserved
loop-place-preserved c =
    let place = c.loop-place.place in
    let widths = c.args.widths.now in
    let texts = c.args.texts.now in
    let within : place < length texts = omega (arith, c.loop-place-test.true) in
    cell_written string_bytes widths texts place (get_or widths place 0) c.index-texts-place.result c.as_str.result.now _ _ _ _ c.requires within refl
    c.index-texts-place.is c.as_str.ensures.value c.loop-place.invariant c.in_ok-push_gap.ensures c.in_ok-push_padded.ensures
