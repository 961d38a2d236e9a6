use Rattle.std.proofs.Common.{◌≡◌, ◌++◌}
use Rattle.std.specs.List.{AllByRecursion}
use Rattle.windows.specs.Several.{parts_of}
use Rattle.turns.proofs.bounds.bound_all.Given as goal

abbrev pub invariant-loop-part : goal.invariant-loop-part
invariant-loop-part g l = record {
  left : l.yielded ++ l.part-iterator.rest.items ≡ l.fn.parts.items;
  parts : parts_of l.bounded.items ≡ l.yielded;
  bounds : AllByRecursion (λ b. b.bound ≡ l.bound) l.bounded.items;
}
