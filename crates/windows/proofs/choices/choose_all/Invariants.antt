use Rattle.std.proofs.Common.{◌≤◌, take}
use Rattle.worker_queue.specs.SetOf.{set_of}
use Rattle.windows.specs.WorldOf.{world_of}
use Rattle.windows.specs.Choosing.{HasPlayed}
use Rattle.windows.proofs.choices.choose_all.Given as goal

abbrev pub invariant-loop-member : goal.invariant-loop-member
invariant-loop-member l = record {
  so_far : HasPlayed l.cluster.scenario.now l.least_delay (take l.member-index l.choices) l.handled l.made.rows.items (world_of set_of l.part);
  few : l.handled ≤ l.member-index;
}
