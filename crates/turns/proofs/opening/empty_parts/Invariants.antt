use Rattle.std.proofs.Common.{◌≡◌, vec_len}
use Rattle.std.specs.List.{AllByRecursion}
use Rattle.worker_queue.specs.SetOf.{set_of}
use Rattle.windows.specs.WorldOf.{world_of}
use Rattle.windows.specs.Several.{numbers_of}
use Rattle.turns.specs.Parts.{nobody, CountFrom}
use Rattle.turns.proofs.opening.empty_parts.Given as goal

abbrev pub invariant-loop-number : goal.invariant-loop-number
invariant-loop-number l = record {
  count : vec_len l.parts ≡ l.number;
  numbered : CountFrom 0 (numbers_of l.parts.items);
  empty : AllByRecursion (λ part. world_of set_of part ≡ nobody) l.parts.items;
}
