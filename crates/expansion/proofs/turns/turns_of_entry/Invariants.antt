use Rattle.std.proofs.Common.{◌≡◌, ◌≤◌, ◌*◌, ◌^◌, ℕ, take}
use Rattle.std.specs.List.{sum_by}
use Rattle.plain_entries.specs.Entries.{start_in}
use Rattle.expansion.specs.Turns.{turns_before}
use Rattle.expansion.proofs.turns.turns_of_entry.Given as goal

abbrev pub invariant-loop-member : goal.invariant-loop-member
invariant-loop-member l = record {
  sum : l.turns ≡ sum_by (λ (member : ℕ). turns_before l.when (start_in l.starts member)) (take l.member-index l.members);
  low : l.turns ≤ l.member-index * 2 ^ 40;
}
