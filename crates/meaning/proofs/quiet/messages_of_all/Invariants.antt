use Rattle.std.proofs.Common.{◌≡◌, ◌≤◌, ◌+◌, ◌*◌, ◌^◌}
use Rattle.meaning.specs.Quiet.{messages_below}
use Rattle.meaning.proofs.quiet.messages_of_all.Given as goal

abbrev pub invariant-loop-member : goal.invariant-loop-member
invariant-loop-member l = record { value : l.sum ≡ messages_below l.scenario l.member; few : l.sum ≤ l.member * (2 ^ 42 + 2) }
