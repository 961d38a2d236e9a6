use Rattle.std.proofs.Common.{◌≡◌, map, length}
use Rattle.std.specs.List.{range_with_len}
use Rattle.drive_process.specs.Process.{opening_process}
use Rattle.drive_world.specs.WorldOf.{processes_from}
use Rattle.drive_world.proofs.processes.Processes.of.Given as goal

-- the members so far wait
abbrev pub invariant-loop-number : goal.invariant-loop-number
invariant-loop-number l = record {
  waiting : processes_from 0 l.list.items ≡ map (λ m. (m, opening_process l.scenario m)) (range_with_len 0 l.number);
  many : length l.list.items ≡ l.number;
}
