use Rattle.test_inside.proofs.Numbers.{below_none}
use Rattle.test_inside.proofs.queue_tests.tree.Goals as goal

pub invariant_of-result : goal.invariant_of-result
invariant_of-result c = record { numbered = below_none _ 1 c.new.ensures }
