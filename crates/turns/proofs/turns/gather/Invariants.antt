use Rattle.std.proofs.Common.{◌≡◌, ◌++◌, map}
use Rattle.std.specs.List.{flat_map}
use Rattle.turns.proofs.turns.gather.Given as goal

abbrev pub invariant-loop-one : goal.invariant-loop-one
invariant-loop-one g l = record {
  parts : l.parts.items ≡ map (λ d. d.part) l.yielded;
  out : l.out.items ≡ flat_map (λ d. d.out.items) l.yielded;
  rows : l.rows.items ≡ l.fn.kept.items ++ flat_map (λ d. d.rows.items) l.yielded;
}
