use Rattle.std.proofs.Common.{map, take}
use Rattle.sweep_plan.specs.Keys.{of_entry}
use Rattle.sweep_plan.specs.Listed.{NamesNone}
use Rattle.sweep_plan.proofs.listed.key_of_entries.Given as goal

abbrev pub invariant-loop-entry : goal.invariant-loop-entry
invariant-loop-entry l = NamesNone (map of_entry (take l.entry-index l.entries)) l.word
