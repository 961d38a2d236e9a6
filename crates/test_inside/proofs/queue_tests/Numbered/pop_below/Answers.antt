use Rattle.test_inside.specs.declared.queue_tests.Note.{Note}
use Rattle.test_inside.proofs.Numbers.{below_popped}
use Rattle.test_inside.proofs.queue_tests.Numbered.pop_below.Goals as goal

pub invariant_of-self : goal.invariant_of-self
invariant_of-self g c = record {
  numbered = below_popped (λ (note : Note). note.key) _ _ c.pop_below.result c.args.self.now.next c.args.self.now.numbered c.pop_below.ensures.taken c.pop_below.ensures.unchanged;
}
