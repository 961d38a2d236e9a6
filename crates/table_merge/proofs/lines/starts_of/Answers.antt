use Rattle.std.proofs.Common.{◌≡◌, [], ℕ, List, ap, map, rules, sym, subst, arith}
use Rattle.std.specs.Borrow.{Bor}
use Rattle.figures.proofs.Handing.{handed}
use Rattle.table_rows.specs.Lines.{AreLines, HasLine, IsLine, shard_line}
use Rattle.table_rows.specs.Refused.{Refuses}
use Rattle.table_rows.proofs.Items.{nothing_left, one_there, refused_so}
use Rattle.table_rows.proofs.OneLine.{same_line}
use Rattle.table_merge.proofs.Reading.{ReadsStarts, no_starts, starts_more, starts_read}
use Rattle.table_merge.proofs.lines.starts_of.Goals as goal

pub loop-line-init : goal.loop-line-init
loop-line-init c = record {
  utf8 = search rules;
  so = subst (λ l. ReadsStarts c.args.text.now c.args.text.now l 0) (sym (ap (map (λ (start : Bor (List ℕ)). start.now)) c.new-starts.ensures.items)) (no_starts c.args.text.now);
}

pub loop-line-preserved : goal.loop-line-preserved
loop-line-preserved c = record {
  utf8 = search rules;
  so = starts_more c.args.text.now _ _ _ _ _ c.loop-line.invariant.so c.in_ok-left.ensures.read.begins c.in_ok-push.ensures;
}

pub returns-in_err-left-clause-refused : goal.returns-in_err-left-clause-refused
returns-in_err-left-clause-refused c =
    handed c.from_residual-in_err-left.result _ _ c.from_residual-in_err-left.ensures.1 (λ e same.
    refused_so (HasLine _) (AreLines c.args.text.now c.args.count) e
    (λ are. one_there IsLine shard_line same_line _ c.args.text.now _ _ c.args.count c.loop-line.invariant.so are c.loop-line-test.true)
    (subst (Refuses (HasLine _)) (sym same) c.in_err-left.ensures.refused))

pub returns-then-is_empty-clause-read : goal.returns-then-is_empty-clause-read
returns-then-is_empty-clause-read c =
    starts_read c.args.text.now _ _ _ c.args.count (omega (arith, c.loop-line-test.false, c.loop-line.auto._line-end)) (search rules) c.loop-line.invariant.so

pub returns-clause-refused : goal.returns-clause-refused
returns-clause-refused c = λ are.
    let some : ¬ (c.loop-line.left.now ≡ []) = search rules in
    some (nothing_left IsLine shard_line same_line _ c.args.text.now _ _ c.args.count c.loop-line.invariant.so are (omega (arith, c.loop-line-test.false, c.loop-line.auto._line-end)))
