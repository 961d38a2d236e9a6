use Rattle.std.proofs.Common.{◌≡◌, not, take}
use Rattle.std.specs.List.{filter}
use Rattle.turns.specs.Parts.{is_before}
use Rattle.turns.proofs.rows.parted.Given as goal

abbrev pub invariant-loop-row : goal.invariant-loop-row
invariant-loop-row l = record {
  before : l.before.items ≡ filter (is_before l.first) (take l.row-index l.rows);
  kept : l.kept.items ≡ filter (λ row. not (is_before l.first row)) (take l.row-index l.rows);
}
