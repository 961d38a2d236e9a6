use Rattle.std.proofs.Common.{◌≤◌, map, subst, sym}
use Rattle.sweep.proofs.Sizes.{few_runs}
use Rattle.table_merge.specs.Tables.{starts_in}
use Rattle.table_merge.proofs.Puts.{puts_all}
use Rattle.table_merge.proofs.joining.put_tables.Goals as goal

pub new-gathering-requires-clause-few : goal.new-gathering-requires-clause-few
new-gathering-requires-clause-few g c = subst (λ n. n ≤ 1000000) (sym c.runs_of_setting.ensures) (few_runs c.args.head.now.plan c.requires.asked)

pub returns-clause-put : goal.returns-clause-put
returns-clause-put g c =
    puts_all _ _ _ _ _ _ (map starts_in c.args.tables.now) c.new-gathering.result c.put_settings.new.gathering
    (g.S.Sink.held c.args.sink.now) (g.S.Sink.held c.put_settings.new.sink) c.into_summaries.result.items c.in_ok-key.ensures c.settings-settings.ensures c.runs_of_setting.ensures
    c.in_ok-put_settings.ensures.put c.new-gathering.ensures c.into_summaries.ensures
