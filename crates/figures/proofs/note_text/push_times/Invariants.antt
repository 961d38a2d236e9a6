use Rattle.std.proofs.Common.{◌≡◌, ◌++◌, take}
use Rattle.std.specs.List.{flat_map}
use Rattle.figures.specs.Notes.{times_in_order}
use Rattle.figures.proofs.note_text.push_times.Given as goal

abbrev pub invariant-loop-crash : goal.invariant-loop-crash
invariant-loop-crash l = l.figures.items ≡ l.fn.figures.items ++ flat_map times_in_order (take l.crash-index l.crashes)
