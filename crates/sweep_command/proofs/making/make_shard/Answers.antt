-- the runs of a shard that are left, by whether there is a width
use Rattle.std.proofs.Common.{◌∙◌, ap, is_some, subst, sym}
use Rattle.toml.specs.View.{view}
use Rattle.sweep.specs.Shards.{shard_header}
use Rattle.sweep.specs.Table.{columns_of}
use Rattle.sweep_command.specs.Runs.{BeginsRuns, FitShard, WritesRuns, standing}
use Rattle.sweep_command.proofs.Ways.{done_by, err_by, few_rest_begun, few_rest_made, rest_begun, rest_made}
use Rattle.sweep_command.proofs.making.make_shard.Goals as goal

pub write_table_until-requires-clause-wanted : goal.write_table_until-requires-clause-wanted
write_table_until-requires-clause-wanted g c _ _ = ap is_some (sym c.until.ensures.same ∙ c.in-Some.is)

pub write_table_until-requires-clause-begun : goal.write_table_until-requires-clause-begun
write_table_until-requires-clause-begun g c _ _ =
    let header = shard_header (columns_of (view c.args.document.now)) c.args.mark.now c.args.plan.now c.args.shard in
    subst (λ until. FitShard until c.args.plan.now c.args.shard header c.args.begun.now.kept (standing c.args.begun.now.count c.args.begun.now.started.items)) (sym c.until.ensures.same ∙ c.in-Some.is) c.requires.few

pub write_table-requires-clause-few : goal.write_table-requires-clause-few
write_table-requires-clause-few g c _ _ =
    let header = shard_header (columns_of (view c.args.document.now)) c.args.mark.now c.args.plan.now c.args.shard in
    subst (λ until. FitShard until c.args.plan.now c.args.shard header c.args.begun.now.kept (standing c.args.begun.now.count c.args.begun.now.started.items)) (sym c.until.ensures.same ∙ c.in-None.is) c.requires.few

pub returns-in-Some-clause-whole : goal.returns-in-Some-clause-whole
returns-in-Some-clause-whole g c =
    let held = g.S.Sink.held in
    let is = sym c.until.ensures.same ∙ c.in-Some.is in
    done_by (λ until. WritesRuns until (view c.args.document.now) c.args.mark.now c.args.plan.now c.args.shard c.args.begun.now.kept (standing c.args.begun.now.count c.args.begun.now.started.items)
    (held c.args.table.now) (held c.write_table_until.new.table))
    _ _ c.write_table_until.result is c.write_table_until.ensures.whole (few_rest_made _ _ _ _ _ _ _ _ _ is)

pub returns-in-Some-clause-part : goal.returns-in-Some-clause-part
returns-in-Some-clause-part g c =
    let held = g.S.Sink.held in
    let is = sym c.until.ensures.same ∙ c.in-Some.is in
    err_by (λ until. BeginsRuns until (view c.args.document.now) c.args.mark.now c.args.plan.now c.args.shard c.args.begun.now.kept (standing c.args.begun.now.count c.args.begun.now.started.items)
    (held c.args.table.now) (held c.write_table_until.new.table))
    _ _ c.write_table_until.result is c.write_table_until.ensures.part (few_rest_begun _ _ _ _ _ _ _ _ _ is)

pub returns-in-None-clause-whole : goal.returns-in-None-clause-whole
returns-in-None-clause-whole g c =
    let held = g.S.Sink.held in
    done_by (λ until. WritesRuns until (view c.args.document.now) c.args.mark.now c.args.plan.now c.args.shard c.args.begun.now.kept (standing c.args.begun.now.count c.args.begun.now.started.items)
    (held c.args.table.now) (held c.write_table.new.table))
    _ _ c.write_table.result (sym c.until.ensures.same ∙ c.in-None.is) c.write_table.ensures.whole (rest_made _ _ _ _ _ _ _ _ _)

pub returns-in-None-clause-part : goal.returns-in-None-clause-part
returns-in-None-clause-part g c =
    let held = g.S.Sink.held in
    err_by (λ until. BeginsRuns until (view c.args.document.now) c.args.mark.now c.args.plan.now c.args.shard c.args.begun.now.kept (standing c.args.begun.now.count c.args.begun.now.started.items)
    (held c.args.table.now) (held c.write_table.new.table))
    _ _ c.write_table.result (sym c.until.ensures.same ∙ c.in-None.is) c.write_table.ensures.part (rest_begun _ _ _ _ _ _ _ _)
