use Rattle.std.proofs.Common.{◌≡◌, ◌++◌, map, take}
use Rattle.plain_entries.specs.Entries.{plain_at}
use Rattle.plain_entries.proofs.listing.add_times.Given as goal

-- an entry is made for each time so far
abbrev pub invariant-loop-time : goal.invariant-loop-time
invariant-loop-time g l = l.made.items ≡ l.fn.made.items ++ map (plain_at l.entry l.member l.again) (take l.time-index l.times)
