use Rattle.std.proofs.Common.{sym, subst}
use Rattle.figures.proofs.Handing.{if_err_then}
use Rattle.sweep.specs.Sums.{AreLinesOf}
use Rattle.sweep.proofs.Handing.{on_ok_then}
use Rattle.table_rows.specs.Lines.{AreLines}
use Rattle.table_rows.proofs.Items.{refused_so}
use Rattle.shard_merge.proofs.settings_read.read_placed_lines.Goals as goal

pub returns-then-placed-clause-read : goal.returns-then-placed-clause-read
returns-then-placed-clause-read c =
    let placed = subst (λ l. AreLinesOf c.args.key.now c.args.plan.now c.args.first l c.args.count) c.as_bytes.ensures.value (c.in_ok-placed.ensures.are c.if-placed.true) in
    on_ok_then _ _ c.read_lines.result c.read_lines.ensures.read (λ read. (read, placed))

pub returns-then-placed-clause-refused : goal.returns-then-placed-clause-refused
returns-then-placed-clause-refused c =
    let lines = c.args.lines.now in
    let count = c.args.count in
    if_err_then c.read_lines.result _ _ c.read_lines.ensures.refused (λ e none.
    refused_so (AreLines lines count) (AreLines lines count × AreLinesOf c.args.key.now c.args.plan.now c.args.first lines count) e (λ both. both.0) none)

pub returns-clause-refused : goal.returns-clause-refused
returns-clause-refused c = λ both.
    c.in_ok-placed.ensures.none c.if-placed.false (subst (λ l. AreLinesOf c.args.key.now c.args.plan.now c.args.first l c.args.count) (sym c.as_bytes.ensures.value) both.1)
