-- Times that stand apart in their order.
use Rattle.std.specs.Prelude.{◌≡◌, ℕ, ◌<◌, ◌≤◌, Bool, true, false, ◌&&◌, nat_le, nat_lt, List, length}
use Rattle.std.specs.List.{list_any, slice_index_or}
use Rattle.scenario.specs.declared.spells.Spell.{Spell}

-- the moment is in the time
abbrev pub is_in : ℕ → Spell → Bool
is_in t spell = nat_le spell.from t && nat_lt t spell.until

-- the moment is in one of the times
abbrev pub is_in_any : List Spell → ℕ → Bool
is_in_any spells t = list_any (is_in t) spells

-- each of the times has begun by the moment
abbrev pub HaveBegun : List Spell → ℕ → Type 0
HaveBegun spells t = (i : ℕ) (d : Spell) → i < length spells → (slice_index_or spells i d).from ≤ t

-- each time lasts, and is over before the later ones begin
pub record AreApart (spells : List Spell) : Type 0 where
  pub lasts : (i : ℕ) (d : Spell) → i < length spells → (slice_index_or spells i d).from < (slice_index_or spells i d).until
  pub apart : (i j : ℕ) (d : Spell) → i < j → j < length spells → (slice_index_or spells i d).until < (slice_index_or spells j d).from

-- from the one moment on, each is in one of the times, up to the other, which is in none
pub record IsEndFrom (spells : List Spell) (at until : ℕ) : Type 0 where
  pub later : at < until
  pub within : (t : ℕ) → at ≤ t → t < until → is_in_any spells t ≡ true
  pub over : is_in_any spells until ≡ false
