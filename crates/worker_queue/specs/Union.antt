-- Two sets of events as one.
use Rattle.std.specs.Prelude.{◌≡◌, ◌++◌, true, false}
use Rattle.std.specs.FinMap.{FinMap, entries, from_entries, contains_key}
use Rattle.base.specs.declared.key.Key.{Key}
use Rattle.base.specs.Order.{key_cmp}

-- the events of both
abbrev pub union : {E : Type 0} → FinMap key_cmp E → FinMap key_cmp E → FinMap key_cmp E
union first second = from_entries (entries first ++ entries second)

-- no key is in both
abbrev pub AreApart : {E : Type 0} → FinMap key_cmp E → FinMap key_cmp E → Type 0
AreApart first second = (q : Key) → contains_key first q ≡ true → contains_key second q ≡ false
