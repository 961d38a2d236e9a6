use Rattle.std.proofs.Common.{◌≡◌, map, take}
use Rattle.figures.specs.Notes.{times_of}
use Rattle.figures.proofs.notes.times_of_each.Given as goal

abbrev pub invariant-loop-crash : goal.invariant-loop-crash
invariant-loop-crash l = l.times.items ≡ map times_of (take l.crash-index l.crashes)
