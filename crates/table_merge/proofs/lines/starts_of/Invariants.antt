use denote.Shadow.{shadow}
use denote.Text.{Utf8}
use Rattle.std.proofs.Common.{List, ℕ, map}
use Rattle.std.specs.Borrow.{Bor}
use Rattle.table_merge.proofs.Reading.{ReadsStarts}
use Rattle.table_merge.proofs.lines.starts_of.Given as goal

-- the first lines are read
abbrev pub invariant-loop-line : goal.invariant-loop-line
invariant-loop-line l = record {
  utf8 : shadow (Utf8 l.left);
  so : ReadsStarts l.text l.left (map (λ (start : Bor (List ℕ)). start.now) l.starts.items) l._line;
}
