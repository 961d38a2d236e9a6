use Rattle.std.proofs.Common.{map, rules}
use Rattle.table_merge.specs.Tables.{starts_in}
use Rattle.table_merge.proofs.Puts.{both_put, none_put, settings_more, still_put}
use Rattle.table_merge.proofs.merging.put_settings.Goals as goal

pub loop-number-preserved : goal.loop-number-preserved
loop-number-preserved g c = record {
  so = still_put c.args.key.now _ _ _ _ _ _ (settings_more c.loop-number.number (map starts_in c.args.tables.now))
      (both_put c.args.key.now _ _ _ _ _ _ _ _ c.loop-number.invariant.so c.in_ok-put_setting.ensures.put);
  same = search rules;
}

pub loop-number-init : goal.loop-number-init
loop-number-init g c = record { so = none_put c.args.key.now _ _; same = search rules }
