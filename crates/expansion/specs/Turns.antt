-- How often crashes and leaves come before the starts of their members, where they aren't made: too often is rule 10, so
-- that no text takes long to expand.
use Rattle.std.specs.Prelude.{ℕ, ◌+◌, ◌-◌, ◌/◌, ◌^◌, Bool, min, nat_lt}
use Rattle.std.specs.List.{sum_by}
use Rattle.plain_entries.specs.declared.departures.DepartureTime.{DepartureTime}
use Rattle.plain_entries.specs.declared.departures.DepartureTime.TheVariants as departure
use Rattle.plain_entries.specs.declared.entry.Entry.{Entry}
use Rattle.plain_entries.specs.declared.script.Script.{Script}

-- how often they come before a member's start, on the mean: `back` and `every` lie between one and the next
abbrev pub turns_before : DepartureTime → (start : ℕ) → ℕ
turns_before (departure.Once at each back) start = 0
turns_before (departure.Again recurrence back) start = (min start recurrence.until - recurrence.from) / (back.after + recurrence.every)

-- for all members of an entry
abbrev pub turns_of_entry : (start : ℕ → ℕ) → Entry DepartureTime → ℕ
turns_of_entry start entry = sum_by (λ member. turns_before entry.when (start member)) entry.who.members.items

-- the most turns
abbrev pub most_turns : ℕ
most_turns = 2 ^ 28

unfoldable pub comes_too_often : (start : ℕ → ℕ) → Script → Bool
comes_too_often start script = nat_lt most_turns (sum_by (turns_of_entry start) script.crashes.items + sum_by (turns_of_entry start) script.leaves.items)
