-- A tree of events by their keys.
use Rattle.std.specs.Prelude.{◌≡◌, Some}
use Rattle.std.specs.BTreeMap.{BTreeMap, get}
use Rattle.base.specs.declared.key.Key.{Key}
use Rattle.base.specs.Order.{key_cmp}

-- each event stands in the tree under its own key
abbrev pub IsKeyed : {E : Type 0} → (E → Key) → BTreeMap Key E → Type 0
IsKeyed {E} key tree = (q : Key) (event : E) → get key_cmp tree q ≡ Some event → key event ≡ q
