use Rattle.std.proofs.Common.{◌≡◌, ◌≤◌}
use Rattle.meaning.specs.Quiet.{starts_below}
use Rattle.meaning.proofs.quiet.starts.Given as goal

abbrev pub invariant-loop-member : goal.invariant-loop-member
invariant-loop-member l = record { value : l.sum ≡ starts_below l.scenario l.member; few : l.sum ≤ l.member }
