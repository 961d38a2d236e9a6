use Rattle.std.proofs.Common.{◌≡◌, false, fold, take}
use Rattle.warnings.specs.Conditions.{down_after}
use Rattle.warnings.proofs.members.ends_down.Given as goal

abbrev pub invariant-loop-event : goal.invariant-loop-event
invariant-loop-event l = l.down ≡ fold (down_after l.at) false (take l.event-index l.script)
