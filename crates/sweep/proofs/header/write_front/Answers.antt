use Rattle.std.proofs.Common.{subst}
use Rattle.std.specs.Prelude.{OnOk, OnErr}
use Rattle.std.specs.Io.KnownBytes.{Appends}
use Rattle.trace.specs.Sinks.{AppendsBeginning}
use Rattle.trace.proofs.Beginnings.{Appends-then, beginning-first, beginning-then}
use Rattle.figures.specs.Lines.{header_line}
use Rattle.shards.specs.Names.{head_cell}
use Rattle.sweep.specs.Table.{names_of}
use Rattle.run_output.proofs.Faults.{on_err}
use Rattle.sweep.proofs.Handing.{on_ok_then, on_err_then}
use Rattle.sweep.proofs.header.write_front.Goals as goal

pub returns-in_err-write_head-clause-part : goal.returns-in_err-write_head-clause-part
returns-in_err-write_head-clause-part g c =
    let held = g.S.Sink.held in
    let plan = c.args.plan.now in
    on_err c.from_residual.result
    (beginning-first (held c.args.table.now) (held c.write_head.new.table) (head_cell c.args.mark.now plan c.args.shard)
    (header_line c.args.columns (names_of plan.swept_keys)) c.in_err-write_head.ensures.part)

pub returns-clause-whole : goal.returns-clause-whole
returns-clause-whole g c =
    let held = g.S.Sink.held in
    let plan = c.args.plan.now in
    let names = subst (λ l. OnOk c.write_names.result (Appends (held c.write_head.new.table) (held c.write_names.new.table) (header_line c.args.columns (names_of l)))) c.swept_keys.ensures c.write_names.ensures.whole in
    on_ok_then _ _ c.write_names.result names
    (Appends-then (held c.args.table.now) (held c.write_head.new.table) (held c.write_names.new.table) (head_cell c.args.mark.now plan c.args.shard)
    (header_line c.args.columns (names_of plan.swept_keys)) c.in_ok-write_head.ensures.whole)

pub returns-clause-part : goal.returns-clause-part
returns-clause-part g c =
    let held = g.S.Sink.held in
    let plan = c.args.plan.now in
    let names = subst (λ l. OnErr c.write_names.result (AppendsBeginning (held c.write_head.new.table) (held c.write_names.new.table) (header_line c.args.columns (names_of l)))) c.swept_keys.ensures c.write_names.ensures.part in
    on_err_then _ _ c.write_names.result names
    (beginning-then (held c.args.table.now) (held c.write_head.new.table) (held c.write_names.new.table) (head_cell c.args.mark.now plan c.args.shard)
    (header_line c.args.columns (names_of plan.swept_keys)) c.in_ok-write_head.ensures.whole)
