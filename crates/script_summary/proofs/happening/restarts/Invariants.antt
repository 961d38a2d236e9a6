use Rattle.std.proofs.Common.{◌≡◌, map, take}
use Rattle.script_summary.specs.Happenings.{of_restart}
use Rattle.script_summary.proofs.happening.restarts.Given as goal

abbrev pub invariant-loop-it : goal.invariant-loop-it
invariant-loop-it l = l.made.items ≡ map of_restart (take l.it-index l.entries)
