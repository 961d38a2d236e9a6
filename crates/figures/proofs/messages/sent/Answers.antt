use Rattle.std.proofs.Common.{◌≤◌, ◌+◌, length, arith}
use Rattle.reports.specs.Rows.{count_of}
use Rattle.figures.proofs.KindsOfMessages.{one_more, still_few, few_sent}
use Rattle.figures.proofs.messages.sent.Goals as goal

pub overflow_add-sent : goal.overflow_add-sent
overflow_add-sent c =
    let rows = c.args.tallies.now in
    let fits : c.loop-kind.sent + c.rows_of-sent.result ≤ length rows =
    still_few (λ kind. count_of kind rows) c.message_kinds-kinds.result.now _ c.loop-kind.kind-index _ _ _ _ c.loop-kind-test.true c.loop-kind.invariant c.rows_of-sent.ensures
    c.message_kinds-kinds.ensures (few_sent c.args.version rows) in
    omega (arith, fits, c.requires)

pub loop-kind-preserved : goal.loop-kind-preserved
loop-kind-preserved c =
    one_more (λ kind. count_of kind c.args.tallies.now) c.message_kinds-kinds.result.now c.loop-kind.kind-index _ _ _ c.loop-kind-test.true c.loop-kind.invariant c.rows_of-sent.ensures
