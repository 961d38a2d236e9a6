use Rattle.std.proofs.Common.{refl}
use Rattle.sweep_plan.specs.Keys.{keys_of_table}
use Rattle.sweep_plan.proofs.Parted.{found_here, none_more, table_adds}
use Rattle.sweep_plan.proofs.listed.key_in_list.Goals as goal

pub returns-in-Some-clause-some : goal.returns-in-Some-clause-some
returns-in-Some-clause-some c =
    found_here (keys_of_table c.args.list) (table_adds c.args.list) c.args.word.now c.args.rows.now c.loop-row.row-index _ c.loop-row-test.true c.in-Some.key c.in-Some.ensures.some

pub loop-row-preserved : goal.loop-row-preserved
loop-row-preserved c =
    none_more (keys_of_table c.args.list) (table_adds c.args.list) c.args.word.now c.args.rows.now c.loop-row.row-index _ c.loop-row-test.true c.loop-row.invariant (c.in_default.ensures.none refl)
