-- What a value is in the plain text: lengths and shares are numbers, and all else is as it stands.
use Rattle.std.specs.Prelude.{◌≡◌, ◌≤◌, ℕ, pos}
use Rattle.toml.specs.Data.{Data, boolean, integer, string}
use Rattle.written_values.specs.Values.{AreTicksIn, IsShareIn}
use Rattle.plain_document.specs.declared.keys.KeyKind.{KeyKind}
use Rattle.plain_document.specs.declared.keys.KeyKind.TheVariants.{Ticks, Share, Plain, Gone}

-- a number from 0 on, a switch or a name
abbrev pub IsOther : Data → Data → Type 0
IsOther (integer (pos number)) plain = plain ≡ integer (pos number)
IsOther (boolean on) plain = plain ≡ boolean on
IsOther (string name) plain = plain ≡ string name
IsOther d plain = ⊥

-- the number that a relation gives, up to a largest one
abbrev pub IsNumber : (ℕ → Type 0) → ℕ → Data → Type 0
IsNumber is most plain = (number : ℕ) × is number × (number ≤ most) × (plain ≡ integer (pos number))

-- a tick has so many microseconds
abbrev pub IsPlainOf : (tick : ℕ) → KeyKind → Data → Data → Type 0
IsPlainOf tick Ticks d plain = IsNumber (AreTicksIn tick d) 9223372036854775807 plain
IsPlainOf tick Share d plain = IsNumber (IsShareIn d) 1000000 plain
IsPlainOf tick Plain d plain = IsOther d plain
IsPlainOf tick Gone d plain = ⊥
