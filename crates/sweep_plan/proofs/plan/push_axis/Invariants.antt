use Rattle.std.proofs.Common.{◌≡◌, ◌++◌}
use Rattle.sweep_plan.specs.Asked.{AreApart}
use Rattle.sweep_plan.proofs.plan.push_axis.Given as goal

abbrev pub invariant-loop-swept : goal.invariant-loop-swept
invariant-loop-swept l =
    record {
      so_far : l.swept_keys.items ≡ l.fn.swept_keys.items ++ l.yielded;
      all : l.fn.axis.items ≡ l.yielded ++ l.swept-iterator.rest.items;
      once : AreApart l.fn.swept_keys.items → AreApart l.swept_keys.items;
    }
