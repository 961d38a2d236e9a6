use Rattle.std.proofs.Common.{◌<◌, ◌≤◌, ◌^◌, ◌-◌, length}
use Rattle.streams.specs.Draw.{words_of}
use Rattle.script_draws.proofs.AgainLemmas.{IsOnSpells}
use Rattle.script_draws.proofs.again.spells.Given as goal

abbrev pub invariant-loop-begins : goal.invariant-loop-begins
invariant-loop-begins l =
    IsOnSpells l.recurrence l.lasting (words_of l.fn.stream) l.spells.items l.begins (words_of l.stream)
    × (length l.spells.items ≤ l.room) × (l.begins < 2 ^ 43)

abbrev pub decreases-loop-begins : goal.decreases-loop-begins
decreases-loop-begins l = l.recurrence.until - l.begins
