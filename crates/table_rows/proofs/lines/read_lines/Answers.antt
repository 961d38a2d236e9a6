use Rattle.std.proofs.Common.{◌≡◌, [], rules, sym, subst, arith}
use Rattle.figures.proofs.Handing.{handed}
use Rattle.table_rows.specs.Lines.{AreLines, HasLine, IsLine, shard_line}
use Rattle.table_rows.specs.Refused.{Refuses}
use Rattle.table_rows.proofs.Items.{nothing_left, one_there, refused_so}
use Rattle.table_rows.proofs.OneLine.{same_line}
use Rattle.table_rows.proofs.Read.{lines_more, lines_read, no_lines}
use Rattle.table_rows.proofs.lines.read_lines.Goals as goal

pub loop-line-init : goal.loop-line-init
loop-line-init g c = record { utf8 = search rules; so = no_lines (g.G.Gather.has c.args.gathering.now) c.args.text.now }

pub loop-line-preserved : goal.loop-line-preserved
loop-line-preserved g c = record {
  utf8 = search rules;
  so = lines_more (g.G.Gather.has c.args.gathering.now) (g.G.Gather.has c.loop-line.gathering) (g.G.Gather.has c.read_line.new.gathering) c.args.text.now _ _ _ c.loop-line.invariant.so
      c.in_ok-left.ensures.read;
}

pub returns-in_err-left-clause-refused : goal.returns-in_err-left-clause-refused
returns-in_err-left-clause-refused g c =
    handed c.from_residual.result _ _ c.from_residual.ensures.1 (λ e same.
    refused_so (HasLine _) (AreLines c.args.text.now c.args.count) e
    (λ are. one_there IsLine shard_line same_line _ c.args.text.now _ _ c.args.count c.loop-line.invariant.so are c.loop-line-test.true)
    (subst (Refuses (HasLine _)) (sym same) c.in_err-left.ensures.refused))

pub returns-then-is_empty-clause-read : goal.returns-then-is_empty-clause-read
returns-then-is_empty-clause-read g c =
    lines_read (g.G.Gather.has c.args.gathering.now) (g.G.Gather.has c.loop-line.gathering) c.args.text.now _ _ c.args.count
    (omega (arith, c.loop-line-test.false, c.loop-line.auto._line-end)) (search rules) c.loop-line.invariant.so

pub returns-clause-refused : goal.returns-clause-refused
returns-clause-refused g c = λ are.
    let some : ¬ (c.loop-line.left.now ≡ []) = search rules in
    some (nothing_left IsLine shard_line same_line _ c.args.text.now _ _ c.args.count c.loop-line.invariant.so are (omega (arith, c.loop-line-test.false, c.loop-line.auto._line-end)))
