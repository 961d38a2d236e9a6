use Rattle.std.proofs.Common.{◌+◌}
use Rattle.streams.specs.Draw.{words_of}
use Rattle.script_draws.specs.Turns.{behind}
use Rattle.plain_entries.specs.Entries.{made_again, members_of, turn_of, start_in}
use Rattle.plain_entries.proofs.Turns.{IsOn}
use Rattle.plain_entries.proofs.listing.add_members.Given as goal

-- what is made so far and what the other members make is all
abbrev pub invariant-loop-k : goal.invariant-loop-k
invariant-loop-k g l =
    IsOn (λ k member. turn_of g.W.When.timing l.when (record { entry = l.entry; k = k; member = member; start = start_in l.starts member })) l.members
    (behind l.fn.made.items (members_of g.W.When.timing (start_in l.starts) l.entry l.when l.members (words_of l.fn.drawing.stream)))
    (l.fn.drawing.room + made_again l.fn.made.items)
    l.k l.made.items (words_of l.drawing.stream) l.drawing.room
