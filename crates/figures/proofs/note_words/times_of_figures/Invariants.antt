use Rattle.std.proofs.Common.{◌≡◌, ◌*◌, take}
use Rattle.std.specs.List.{flat_map}
use Rattle.figures.specs.Notes.{times_in_order}
use Rattle.figures.proofs.note_words.times_of_figures.Given as goal

-- the times so far are those of the first figures
abbrev pub invariant-loop-crash : goal.invariant-loop-crash
invariant-loop-crash l = flat_map times_in_order l.times.items ≡ take (l.crash * 3) l.figures
