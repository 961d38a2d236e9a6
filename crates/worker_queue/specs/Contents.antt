-- What the events of a set ask.
use Rattle.std.specs.Prelude.{map}
use Rattle.std.specs.FinMap.{FinMap, from_entries, entries}
use Rattle.std.specs.declared.cmp.Ordering.{Ordering}
use Rattle.base.specs.Order.{key_cmp}

-- a map with each of its values turned into another
abbrev pub mapped : {K X Y : Type 0} {R : K → K → Ordering} → (X → Y) → FinMap R X → FinMap R Y
mapped f m = from_entries (map (λ e. (e.0, f e.1)) (entries m))

-- what events ask, by their keys
abbrev pub contents_by : {E C : Type 0} → (E → C) → FinMap key_cmp E → FinMap key_cmp C
contents_by content events = mapped content events
