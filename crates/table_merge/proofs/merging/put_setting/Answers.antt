use Rattle.std.proofs.Common.{◌*◌, drop, rules, subst, sym, arith}
use Rattle.std.specs.Prelude.{All, Some}
use Rattle.std.proofs.lemmas.List.Elements.{All-drop, All-take}
use Rattle.sweep_plan.specs.Sweep.{seed_count}
use Rattle.table_rows.specs.Lines.{HasLine}
use Rattle.table_merge.specs.Lines.{IsFull}
use Rattle.table_merge.specs.Tables.{starts_in}
use Rattle.table_merge.specs.declared.lines.Table.{Table}
use Rattle.table_merge.proofs.Order.{all_mapped}
use Rattle.table_merge.proofs.Puts.{both_put, none_put, still_put, tables_more}
use Rattle.table_merge.proofs.merging.put_setting.Goals as goal

pub starts_of_setting-starts-requires-clause-full : goal.starts_of_setting-starts-requires-clause-full
starts_of_setting-starts-requires-clause-full g c =
    subst (λ (t : Table). IsFull c.args.settings (starts_in t)) (sym c.table-item.is)
    (all_mapped (IsFull c.args.settings) starts_in c.args.tables.now c.requires.full c.loop-table.table-index c.table-item.result (omega (arith, c.loop-table-test.true)))

pub put_lines-requires-clause-lines : goal.put_lines-requires-clause-lines
put_lines-requires-clause-lines g c =
    let table = c.table-item.result in
    let n = seed_count (Some table.seeds) in
    let full = subst (λ (t : Table). IsFull c.args.settings (starts_in t)) (sym c.table-item.is)
    (all_mapped (IsFull c.args.settings) starts_in c.args.tables.now c.requires.full c.loop-table.table-index table (omega (arith, c.loop-table-test.true))) in
    subst (All HasLine) (sym c.starts_of_setting-starts.ensures) (All-take HasLine n (drop (c.args.number * n) (starts_in table).things) (All-drop HasLine (c.args.number * n) (starts_in table).things full.begin))

pub loop-table-preserved : goal.loop-table-preserved
loop-table-preserved g c = record {
  so = still_put c.args.key.now _ _ _ _ _ _
      (tables_more c.args.number c.args.tables.now c.loop-table.table-index c.table-item.result _ c.table-item.is (omega (arith, c.loop-table-test.true)) c.starts_of_setting-starts.ensures)
      (both_put c.args.key.now _ _ _ _ _ _ _ _ c.loop-table.invariant.so c.in_ok-put_lines.ensures.put);
  same = search rules;
}

pub loop-table-init : goal.loop-table-init
loop-table-init g c = record { so = none_put c.args.key.now _ _; same = search rules }
