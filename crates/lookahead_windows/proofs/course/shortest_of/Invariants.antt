use Rattle.std.proofs.Common.{◌↔◌, ℕ, ◌<◌, ◌≤◌, ◌^◌, take}
use Rattle.std.specs.List.{AllByRecursion}
use Rattle.lookahead_windows.proofs.course.shortest_of.Given as goal

abbrev pub invariant-loop-way : goal.invariant-loop-way
invariant-loop-way l = record { least : (t : ℕ) → t < 2 ^ 64 → AllByRecursion (λ way. t ≤ way) (take l.way-index l.ways) ↔ (t ≤ l.shortest) }
