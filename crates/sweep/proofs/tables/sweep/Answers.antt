use Rattle.std.proofs.Common.{◌≡◌, ◌≤◌, [], sym, subst, arith, ap, ◌∙◌}
use Rattle.toml.specs.View.{view}
use Rattle.sweep_plan.specs.Sweep.{run_count, seed_count}
use Rattle.shards.specs.Shards.{first_run, past_run}
use Rattle.shards.proofs.Whole.{first_of_whole, past_of_whole}
use Rattle.sweep.specs.Shards.{BeginsRest}
use Rattle.sweep.specs.Summaries.{IsGathered, MakesAll, MakesRest}
use Rattle.run_output.proofs.Faults.{on_err}
use Rattle.sweep.proofs.Sizes.{few_runs}
use Rattle.sweep.proofs.WholeSweep.{makes_all, of_whole}
use Rattle.sweep.proofs.tables.sweep.Goals as goal

pub new-gathering-requires-clause-few : goal.new-gathering-requires-clause-few
new-gathering-requires-clause-few g c = subst (λ n. n ≤ 1000000) (sym c.runs_of_setting.ensures) (few_runs c.args.plan.now c.requires.asked)

pub write_table-requires-clause-few : goal.write_table-requires-clause-few
write_table-requires-clause-few g c _ _ =
    let count = run_count c.args.plan.now in
    let first = ap (λ q. first_run q count) c.whole.ensures.only ∙ first_of_whole count in
    let past = ap (λ q. past_run q count) c.whole.ensures.only ∙ past_of_whole count in
    omega (arith, first, past, c.nothing-nothing.ensures.count)

pub write_table-requires-clause-fresh : goal.write_table-requires-clause-fresh
write_table-requires-clause-fresh g c _ _ = subst (λ n. IsGathered n [] c.new-gathering.result) c.runs_of_setting.ensures c.new-gathering.ensures

pub returns-in_err-write_table-clause-part : goal.returns-in_err-write_table-clause-part
returns-in_err-write_table-clause-part g c =
    let nothing = c.nothing-nothing in
    on_err c.from_residual.result
    (of_whole (λ p kept runs. BeginsRest (view c.args.document.now) c.args.mark.now c.args.plan.now p kept runs (g.S.Sink.held c.args.table.now) (g.S.Sink.held c.write_table.new.table))
    _ _ _ c.whole.ensures.only nothing.ensures.kept nothing.ensures.count c.in_err-write_table.ensures.part)

pub returns-clause-whole : goal.returns-clause-whole
returns-clause-whole g c =
    let tree = view c.args.document.now in
    let plan = c.args.plan.now in
    let mark = c.args.mark.now in
    let nothing = c.nothing-nothing in
    let old = g.S.Sink.held c.args.table.now in
    let new = g.S.Sink.held c.write_table.new.table in
    let gathering = c.write_table.new.gathering in
    subst (MakesAll tree mark plan old new) (sym c.into_summaries.ensures)
    (makes_all tree plan mark old new gathering
    (of_whole (λ p kept runs. MakesRest tree mark plan p kept runs old new (λ notes. IsGathered (seed_count plan.seeds) notes gathering))
    _ _ _ c.whole.ensures.only nothing.ensures.kept nothing.ensures.count c.in_ok-write_table.ensures.whole))
