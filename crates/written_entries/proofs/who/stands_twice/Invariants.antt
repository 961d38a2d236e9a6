use Rattle.std.proofs.Common.{◌≡◌, false, take}
use Rattle.written_entries.specs.Bad.{stands_twice}
use Rattle.written_entries.proofs.who.stands_twice.Given as goal

abbrev pub invariant-loop-member : goal.invariant-loop-member
invariant-loop-member l = record {
  seen : l.seen.keys ≡ take l.member-index l.members;
  once : stands_twice (take l.member-index l.members) ≡ false;
}
