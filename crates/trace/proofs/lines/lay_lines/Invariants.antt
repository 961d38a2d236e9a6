use Rattle.std.proofs.Common.{◌≡◌, ◌*◌, ◌≤◌, length, drop}
use Rattle.trace.specs.Text.{rows_text}
use Rattle.trace.proofs.lines.lay_lines.Given as goal

-- the lines of the rows behind those that are left are laid, and there is room for the rest
abbrev pub invariant-loop-left : goal.invariant-loop-left
invariant-loop-left l =
    record {
      within : l.left ≤ length l.rows;
      room : 369 * l.left ≤ l.start;
      start : l.start ≤ length l.room;
      laid : drop l.start l.room ≡ rows_text l.scenario (drop l.left l.rows);
    }

abbrev pub decreases-loop-left : goal.decreases-loop-left
decreases-loop-left l = l.left
