use Rattle.std.proofs.Common.{◌≡◌, map, take}
use Rattle.script_summary.specs.Happenings.{of_slow}
use Rattle.script_summary.proofs.happening.slows.Given as goal

abbrev pub invariant-loop-it : goal.invariant-loop-it
invariant-loop-it l = l.made.items ≡ map (of_slow l.extras) (take l.it-index l.entries)
