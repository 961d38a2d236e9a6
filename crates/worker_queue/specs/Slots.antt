-- Lists of events as sets.
use Rattle.std.specs.Prelude.{◌≡◌, ◌+◌, ◌*◌, ◌^◌, ◌<◌, ◌≤◌, ℕ, true, List, length, map, slice_index_or, count_by}
use Rattle.std.specs.List.Sorted.{IsSortedBy}
use Rattle.std.specs.Ordering.{is_lt, eq_by_cmp}
use Rattle.std.specs.FinMap.{FinMap, from_entries, contains_key}
use Rattle.base.specs.declared.key.Key.{Key}
use Rattle.base.specs.Order.{key_cmp, IsBefore}

-- the events of a list, by their keys
abbrev pub by_key : {E : Type 0} → (E → Key) → List E → FinMap key_cmp E
by_key key events = from_entries (map (λ e. (key e, e)) events)

-- no two events of a list have one key
abbrev pub AreUnlike : {E : Type 0} → (E → Key) → List E → Type 0
AreUnlike key events = (q : Key) → count_by (λ e. eq_by_cmp key_cmp q (key e)) events ≤ 1

-- a list with the greatest key first
abbrev pub AreFalling : {E : Type 0} → (E → Key) → List E → Type 0
AreFalling key events = IsSortedBy (λ a b. is_lt (key_cmp (key b) (key a))) events

-- no event of a list comes before the one at this place
abbrev pub IsLeastPlace : {E : Type 0} → (E → Key) → List E → ℕ → Type 0
IsLeastPlace key events place = (other : ℕ) (e : _) → other < length events → ¬ (IsBefore (key (slice_index_or events other e)) (key (slice_index_or events place e)))

-- the events of a list have one moment
abbrev pub HaveOneMoment : {E : Type 0} → (E → Key) → List E → Type 0
HaveOneMoment key events = (first second : ℕ) (e : _) → first < length events → second < length events → (key (slice_index_or events first e)).at ≡ (key (slice_index_or events second e)).at

-- where a key stands among those of its moment, as one number: the receiver, the sender, the sender's number
pub record IsRank (k : Key) (rank : ℕ) : Type 0 where
  pub is : rank ≡ k.to * 2 ^ 80 + k.from * 2 ^ 64 + k.number
  pub sender : k.from < 2 ^ 16
  pub number : k.number < 2 ^ 64

-- the events of a set have one moment
abbrev pub IsOfOneMoment : {E : Type 0} → FinMap key_cmp E → Type 0
IsOfOneMoment events = (q r : Key) → contains_key events q ≡ true → contains_key events r ≡ true → q.at ≡ r.at

-- no event of a set comes before this key
abbrev pub NoneIsBefore : {E : Type 0} → FinMap key_cmp E → Key → Type 0
NoneIsBefore events k = (q : Key) → contains_key events q ≡ true → ¬ (IsBefore q k)
