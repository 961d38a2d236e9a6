use Rattle.std.proofs.Common.{◌≡◌, map, take}
use Rattle.std.specs.Prelude.{string_bytes}
use Rattle.sweep.specs.Table.{names_of}
use Rattle.sweep.proofs.values.names.Given as goal

abbrev pub invariant-loop-swept : goal.invariant-loop-swept
invariant-loop-swept l = map string_bytes l.names.items ≡ names_of (take l.swept-index l.swept_keys)
