use Rattle.std.proofs.Common.{◌≡◌, ◌≤◌, List, ℕ, Bor, All, map, decimal}
use Rattle.command_line.proofs.division.part_numbers.Given as goal

abbrev pub invariant-loop-item : goal.invariant-loop-item
invariant-loop-item l =
    record { written : map decimal l.numbers.items ≡ map (λ (item : Bor (List ℕ)). item.now) l.yielded; low : All (λ n. n ≤ 63) l.numbers.items }
