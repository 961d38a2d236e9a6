use Rattle.std.proofs.Common.{refl, arith}
use Rattle.test_inside.proofs.Numbers.{below_pushed}
use Rattle.test_inside.proofs.queue_tests.Numbered.push.Goals as goal

pub invariant_of-self-2 : goal.invariant_of-self-2
invariant_of-self-2 g c = record {
  numbered = below_pushed _ _ _ _ c.args.self.now.next c.in-Some.next c.args.self.now.numbered c.in-Ok.ensures.ok refl (omega (arith, c.in-Some.ensures));
}
