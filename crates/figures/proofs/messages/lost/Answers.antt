use Rattle.std.proofs.Common.{◌≤◌, ◌+◌, length, arith}
use Rattle.reports.specs.Rows.{losses_of}
use Rattle.figures.proofs.KindsOfMessages.{one_more, still_few, few_lost}
use Rattle.figures.proofs.messages.lost.Goals as goal

pub overflow_add-lost : goal.overflow_add-lost
overflow_add-lost c =
    let rows = c.args.tallies.now in
    let fits : c.loop-kind.lost + c.lost-lost.result ≤ length rows =
    still_few (λ kind. losses_of kind rows) c.message_kinds-kinds.result.now _ c.loop-kind.kind-index _ _ _ _ c.loop-kind-test.true c.loop-kind.invariant c.lost-lost.ensures
    c.message_kinds-kinds.ensures (few_lost c.args.version rows) in
    omega (arith, fits, c.requires)

pub loop-kind-preserved : goal.loop-kind-preserved
loop-kind-preserved c =
    one_more (λ kind. losses_of kind c.args.tallies.now) c.message_kinds-kinds.result.now c.loop-kind.kind-index _ _ _ c.loop-kind-test.true c.loop-kind.invariant c.lost-lost.ensures
