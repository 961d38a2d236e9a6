use Rattle.std.proofs.Common.{rules}
use Rattle.windows.specs.WorldOf.{world_of}
use Rattle.windows.proofs.Advancing.{taken_handled}
use Rattle.windows.proofs.steps.handle_taken.Goals as goal

pub returns-clause-ok : goal.returns-clause-ok
returns-clause-ok g c =
    taken_handled c.args.cluster.scenario.now c.args.event (world_of g.Q.EventQueue.set c.args.part.now) _ _ c.args.out.now (record { events = c.empty.new.list; rows = c.empty-2.new.list }) c.handle.new.out _
    c.empty.ensures c.empty-2.ensures c.in_ok-handle.ensures.ok c.in_ok-deliver.ensures.own c.in_ok-deliver.ensures.others c.in_ok-move_behind.ensures

pub returns-in_err-handle-clause-overflow : goal.returns-in_err-handle-clause-overflow
returns-in_err-handle-clause-overflow g c = λ h. c.in_err-handle.ensures.overflow (search rules)
