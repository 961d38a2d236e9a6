use Rattle.streams.specs.Draw.{words_of}
use Rattle.plain_entries.specs.Entries.{entry_of, list_of, start_in}
use Rattle.plain_entries.proofs.Turns.{IsOn}
use Rattle.plain_entries.proofs.listing.plain_list.Given as goal

-- what is made so far and what the other entries make is all
abbrev pub invariant-loop-place : goal.invariant-loop-place
invariant-loop-place g l =
    IsOn (entry_of g.W.When.timing (start_in l.starts)) l.entries (list_of g.W.When.timing (start_in l.starts) l.entries (words_of l.fn.drawing.stream)) l.fn.drawing.room
    l.place l.made.items (words_of l.drawing.stream) l.drawing.room
