use Rattle.std.proofs.Common.{◌≡◌, not, take}
use Rattle.std.specs.List.{filter}
use Rattle.drive_world.specs.Rows.{is_row_before}
use Rattle.drive_world.proofs.handing.parted.Given as goal

-- of the rows so far, those of the events before this one, and the others
abbrev pub invariant-loop-row : goal.invariant-loop-row
invariant-loop-row l = record {
  early : l.early.items ≡ filter (is_row_before l.key) (take l.row-index l.rows);
  late : l.late.items ≡ filter (λ row. not (is_row_before l.key row)) (take l.row-index l.rows);
}
