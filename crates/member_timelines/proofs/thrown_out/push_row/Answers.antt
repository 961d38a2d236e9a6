use Rattle.drawing.proofs.Pushes.{and_then}
use Rattle.member_timelines.specs.ThrownOut.{row}
use Rattle.member_timelines.proofs.thrown_out.push_row.Goals as goal

pub returns : goal.returns
unfolding row
returns c =
    let first = rw c.first_confirm.ensures.value at c.in_ok-push_first_cells.ensures in
    let back = rw c.times_back.ensures at c.in_ok-push_cell-2.ensures in
    let failed = rw (c.fails.ensures, c.story.ensures.fails) at c.in_ok-push_cell-3.ensures in
    and_then _ _ _ (and_then _ _ _ (and_then _ _ _ (and_then _ _ _ first c.in_ok-push_cell.ensures) back) failed) c.in_ok-push_str.ensures.bytes
