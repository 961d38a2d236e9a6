use Rattle.std.proofs.Common.{ap, ◌∙◌}
use Rattle.std.specs.Ordering.{is_lt}
use Rattle.base.specs.Order.{key_cmp}
use Rattle.windows.specs.WorldOf.{world_of}
use Rattle.test_inside.proofs.Opened.{absent_if_first, absent_if_none}
use Rattle.test_inside.proofs.part_tests.is_first.Goals as goal

pub returns-in-Some : goal.returns-in-Some
unfolding key_cmp
returns-in-Some g c = λ went.
    absent_if_first (world_of g.Q.EventQueue.set c.args.part.now).pending c.args.event.now.key c.in-Some.least c.is_lt.result c.in-Some.ensures.least (c.is_lt.ensures ∙ ap is_lt c.cmp.ensures) went

pub returns-in-None : goal.returns-in-None
returns-in-None g c = λ _. absent_if_none (world_of g.Q.EventQueue.set c.args.part.now).pending c.args.event.now.key c.in-None.ensures.none
