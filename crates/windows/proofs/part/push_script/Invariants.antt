use Rattle.std.proofs.Common.{◌≡◌, take}
use Rattle.base.specs.World.{with_events}
use Rattle.member.specs.Opening.{numbered_from}
use Rattle.windows.specs.WorldOf.{contents_in}
use Rattle.windows.proofs.part.push_script.Given as goal

abbrev pub invariant-loop-place : goal.invariant-loop-place
invariant-loop-place g l = contents_in (g.Q.EventQueue.set l.queue) ≡ with_events (contents_in (g.Q.EventQueue.set l.fn.queue)) (numbered_from l.member 1 (take l.place l.script))
