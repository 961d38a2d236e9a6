use Rattle.std.proofs.Common.{◌≡◌, ◌++◌, ◌∷◌, [], rules, arith}
use Rattle.table_merge.proofs.Reading.{read_more}
use Rattle.table_merge.proofs.joining.read_tables.Goals as goal

pub loop-one-preserved : goal.loop-one-preserved
loop-one-preserved c =
    let head = c.args.first.now.head in
    let added : c.push.new.self.items ≡ c.loop-one.tables.items ++ c.in_ok-table.table ∷ [] = search rules in
    read_more c.args.texts.now head.mark.now head.columns head.plan c.args.found.now c.loop-one.one-index _ c.loop-one.tables.items c.push.new.self.items c.in_ok-table.table
    (omega (arith, c.loop-one-test.true)) c.loop-one.invariant c.in_ok-table.ensures.read added
