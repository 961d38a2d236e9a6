use Rattle.drive_world.specs.WorldOf.{events_in}
use Rattle.drive_world.proofs.Scans.{AreLeft}
use Rattle.drive_world.proofs.pending.Pending.first_free.Given as goal

abbrev pub invariant-loop-key : goal.invariant-loop-key
invariant-loop-key l = AreLeft (events_in l.self) l.waiting.keys.items l.key-iterator
