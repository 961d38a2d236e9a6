-- The probes of others that a member passed on: pairs of the member that began one and its number there.
use Rattle.std.specs.Prelude.{ℕ}
use Rattle.std.specs.Ordering.{nat_cmp, ordering_then}
use Rattle.std.specs.declared.cmp.Ordering.{Ordering}
use Rattle.std.specs.FinSet as set

-- the order in which they are kept: by the member, then by the number
abbrev pub relay_cmp : ℕ × ℕ → ℕ × ℕ → Ordering
relay_cmp a b = ordering_then (nat_cmp a.0 b.0) (nat_cmp a.1 b.1)

-- a set of such pairs
abbrev pub RelaySet : Type 0
RelaySet = set.FinSet relay_cmp
