use Rattle.std.proofs.Common.{◌≡◌, ◌≤◌, ◌*◌, ◌^◌, take}
use Rattle.std.specs.List.{sum_by}
use Rattle.plain_entries.specs.Entries.{start_in}
use Rattle.expansion.specs.Turns.{turns_of_entry}
use Rattle.expansion.proofs.turns.turns_of_list.Given as goal

abbrev pub invariant-loop-entry : goal.invariant-loop-entry
invariant-loop-entry l = record {
  sum : l.turns ≡ sum_by (turns_of_entry (start_in l.starts)) (take l.entry-index l.entries);
  low : l.turns ≤ l.entry-index * 2 ^ 54;
}
