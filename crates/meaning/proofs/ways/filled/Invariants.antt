use Rattle.std.proofs.Common.{◌≡◌, replicate}
use Rattle.meaning.proofs.ways.filled.Given as goal

abbrev pub invariant-loop-each : goal.invariant-loop-each
invariant-loop-each l = l.links.items ≡ replicate l._each l.link
