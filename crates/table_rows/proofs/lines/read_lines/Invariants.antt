use denote.Shadow.{shadow}
use denote.Text.{Utf8}
use Rattle.table_rows.proofs.Read.{ReadsSome}
use Rattle.table_rows.proofs.lines.read_lines.Given as goal

-- the first lines are read
abbrev pub invariant-loop-line : goal.invariant-loop-line
invariant-loop-line g l = record {
  utf8 : shadow (Utf8 l.left);
  so : ReadsSome (g.G.Gather.has l.fn.gathering) (g.G.Gather.has l.gathering) l.text l.left l._line;
}
