use Rattle.std.proofs.Common.{◌≡◌, ◌≤◌, ◌*◌}
use Rattle.meaning.specs.Quiet.{names_below}
use Rattle.meaning.proofs.quiet.name_bytes.Given as goal

abbrev pub invariant-loop-member : goal.invariant-loop-member
invariant-loop-member l = record { value : l.sum ≡ names_below l.scenario l.member; few : l.sum ≤ 38 * l.member }
