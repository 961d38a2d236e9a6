-- What the lines of plain entries define: each an item of its list, with its member, its moments and what else it says.
use Rattle.std.specs.Prelude.{ℕ, List, [], ◌∷◌, ◌++◌, codes, pos, slice_get, Option, Some, None, String, string_bytes}
use Rattle.std.specs.declared.alloc.Global.{Global}
use Rattle.std.specs.Option.{option_map_or}
use Rattle.toml.specs.Data.{string, integer}
use Rattle.toml.specs.Tables.{Expression, key_value, array_table}
use Rattle.scenario.specs.declared.spells.Spell.{Spell}
use Rattle.plain_entries.specs.declared.departures.Departure.{Departure}
use Rattle.plain_entries.specs.declared.restarts.Restart.{Restart}
use Rattle.plain_entries.specs.declared.plain.Plain.{Plain}

-- the header of an item of a list
abbrev pub item_line : List ℕ → Expression
item_line list = (([], list), array_table)

-- a key with a whole number
abbrev pub whole_line : List ℕ → ℕ → Expression
whole_line key number = (([], key), key_value (integer (pos number)))

-- a key with a name
abbrev pub name_line : List ℕ → List ℕ → Expression
name_line key name = (([], key), key_value (string name))

-- the name of the member of a number, of all members' names
abbrev pub name_at : List (String Global) → ℕ → List ℕ
name_at names member = option_map_or string_bytes (slice_get names member) []

-- an entry of a list begins with its header and its member
abbrev pub head_lines : List ℕ → List (String Global) → ℕ → List Expression
head_lines list names member = item_line list ∷ name_line (codes "member") (name_at names member) ∷ []

-- a crash or a leave
abbrev pub departure_lines : List ℕ → List (String Global) → Plain Departure → List Expression
departure_lines list names it = head_lines list names it.member ++ whole_line (codes "at") it.time.at ∷ []

-- whom a restart asks, where it says so
abbrev pub contact_lines : List (String Global) → Option ℕ → List Expression
contact_lines names None = []
contact_lines names (Some contact) = name_line (codes "contact") (name_at names contact) ∷ []

-- a restart
abbrev pub restart_lines : List (String Global) → Plain Restart → List Expression
restart_lines names it = head_lines (codes "restart") names it.member ++ (whole_line (codes "at") it.time.at ∷ contact_lines names it.time.contact)

-- when a time begins and ends
abbrev pub span_lines : Spell → List Expression
span_lines time = whole_line (codes "from") time.from ∷ whole_line (codes "until") time.until ∷ []

-- a pause or a block; a slow time without by how much
abbrev pub spell_lines : List ℕ → List (String Global) → Plain Spell → List Expression
spell_lines list names it = head_lines list names it.member ++ span_lines it.time

-- by how much: as the text's entry says
abbrev pub extra_at : List ℕ → ℕ → ℕ
extra_at extras entry = option_map_or (λ extra. extra) (slice_get extras entry) 0

-- a slow time; `extras` has by how much, entry by entry of the text
abbrev pub slow_lines : List ℕ → List (String Global) → Plain Spell → List Expression
slow_lines extras names it = spell_lines (codes "slow") names it ++ whole_line (codes "extra") (extra_at extras it.entry) ∷ []
