use Rattle.std.proofs.Common.{◌≡◌, map, take}
use Rattle.script_summary.specs.Happenings.{of_spell}
use Rattle.script_summary.proofs.happening.spells.Given as goal

abbrev pub invariant-loop-it : goal.invariant-loop-it
invariant-loop-it l = l.made.items ≡ map of_spell (take l.it-index l.entries)
