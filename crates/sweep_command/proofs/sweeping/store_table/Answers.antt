-- what the file holds of a sweep that was done, and of one that broke off
use Rattle.std.proofs.Common.{string_bytes}
use Rattle.toml.specs.View.{view}
use Rattle.scenario_files.proofs.Held.{each_ok, told_done, told_failed, each_err_with}
use Rattle.sweep_output.proofs.Counted.{one_closed}
use Rattle.sweep_command.proofs.Refused.{is_caused}
use Rattle.sweep_command.specs.Runs.{standing}
use Rattle.sweep_command.proofs.Tables.{stood_few, table_begun, table_stored}
use Rattle.sweep_command.proofs.sweeping.store_table.Goals as goal

pub fill_table-made-requires-clause-few : goal.fill_table-made-requires-clause-few
fill_table-made-requires-clause-few g c _ _ =
    let words = c.args.words.now in
    let marked = c.args.prepared.now.marked in
    stood_few (view marked.document) (string_bytes marked.mark) words (g.F.Files.known c.args.files.now words.table.now) c.args.begun.now.kept (standing c.args.begun.now.count c.args.begun.now.started.items)
    c.requires.asked c.requires.shard c.requires.stood

pub returns-clause-done : goal.returns-clause-done
returns-clause-done g c =
    let known = g.F.Files.known in
    let filled = c.fill_table-made in
    told_done _ filled.result.1 c.run_result.result c.run_result.ensures (each_ok filled.result.1 filled.ensures.whole (λ lines makes.
    table_stored _ _ _ (known c.args.files.now) (known c.make_after.new.self) (known c.close.new.self) _ _ _ _
    c.in-Ok.ensures.others c.close.ensures.others c.in-Ok.ensures.beginning c.in-Ok.ensures.made c.close.ensures.closed c.args.words.now.shard _ c.requires.stood makes))

pub returns-clause-failed : goal.returns-clause-failed
returns-clause-failed g c =
    let known = g.F.Files.known in
    let filled = c.fill_table-made in
    let counted = one_closed _ _ _ _ c.make_after.ensures.counted c.close.ensures.refused in
    told_failed _ filled.result.1 c.run_result.result c.run_result.ensures
    (each_err_with filled.result.1 filled.ensures.part (is_caused _ _ filled.result.1 _ _ _ counted filled.ensures.failures filled.ensures.causes) (λ cause begins caused. (
      c.in-Ok.ensures.apart,
      table_begun _ _ _ (known c.args.files.now) (known c.make_after.new.self) (known c.close.new.self) _ _ _ _
          c.in-Ok.ensures.others c.close.ensures.others c.in-Ok.ensures.beginning c.in-Ok.ensures.made c.close.ensures.closed
          _ cause caused c.args.words.now.shard c.requires.stood begins,
    )))
