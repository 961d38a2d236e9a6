-- What an item of the list of groups says, and one of the list of slow times.
use Rattle.std.specs.Prelude.{◌≡◌, ℕ, ◌^◌, codes, string_bytes}
use Rattle.toml.specs.Data.{Data, get}
use Rattle.written_names.specs.declared.roster.WrittenGroup.{WrittenGroup}
use Rattle.written_groups.specs.Values.{count_at, text_at, CountsAt}

-- a tick has so many microseconds
pub record IsGroupIn (tick : ℕ) (d : Data) (group : WrittenGroup) : Type 0 where
  pub name : string_bytes group.name ≡ text_at (codes "name") d
  pub count : group.count ≡ count_at d
  pub start : CountsAt tick 0 (2 ^ 40) (get (codes "start") d) group.start

abbrev pub IsExtraIn : (tick : ℕ) → Data → ℕ → Type 0
IsExtraIn tick d extra = CountsAt tick 1 (2 ^ 24) (get (codes "extra") d) extra
