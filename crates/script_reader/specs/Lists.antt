-- The six lists of a document as they are written, and the lowest rule that they break.
use Rattle.std.specs.Prelude.{◌≡◌, ℕ, min, Bool, false, if◌then◌else◌, List, [], map, All, is_none, Option}
use Rattle.std.specs.Option.{option_map_or}
use Rattle.toml.specs.Data.{Data, as_array, get}
use Rattle.schema.specs.Tree.{items_of}
use Rattle.scenario.specs.Setup.{Group}
use Rattle.written_entries.specs.declared.keys.ScriptList.{ScriptList}
use Rattle.written_entries.specs.declared.keys.ScriptList.TheVariants.{Crash, Leave, Restart, Slow, Pause, Block}
use Rattle.script_reader.specs.declared.lists.WrittenList.{WrittenList}
use Rattle.script_reader.specs.declared.lists.WrittenScript.{WrittenScript}
use Rattle.script_reader.specs.Entries.{HasNumbers}
use Rattle.script_reader.specs.Keys.{list_name}
use Rattle.script_reader.specs.Rules.{is_name_twice, item_of, items_rule, no_rule, IsRead}

-- something else than a list stands at the list's name
abbrev pub is_other : Option Data → Bool
is_other value = option_map_or (λ d. is_none (as_array d)) value false

-- what stands at the list's name, item by item
pub record IsList (tick : ℕ) (of : ScriptList) (value : Option Data) (made : WrittenList) : Type 0 where
  pub list : made.list ≡ of
  pub other : made.is_other ≡ is_other value
  pub twice : made.is_twice ≡ is_name_twice (option_map_or items_of value [])
  pub items : map item_of made.items.items ≡ option_map_or items_of value []
  pub read : All (IsRead tick) made.items.items

-- the six lists of a document
pub record IsWritten (tick : ℕ) (d : Data) (script : WrittenScript) : Type 0 where
  pub crashes : IsList tick Crash (get (list_name Crash) d) script.crashes
  pub leaves : IsList tick Leave (get (list_name Leave) d) script.leaves
  pub restarts : IsList tick Restart (get (list_name Restart) d) script.restarts
  pub slows : IsList tick Slow (get (list_name Slow) d) script.slows
  pub pauses : IsList tick Pause (get (list_name Pause) d) script.pauses
  pub blocks : IsList tick Block (get (list_name Block) d) script.blocks

-- ---- the lowest rule

abbrev pub kind_rule : Bool → ℕ
kind_rule other = if other then 4 else no_rule

abbrev pub twice_rule : Bool → ℕ
twice_rule twice = if twice then 6 else no_rule

unfoldable pub list_rule : List Group → WrittenList → ℕ
list_rule groups made = min (min (kind_rule made.is_other) (twice_rule made.is_twice)) (items_rule made.list groups made.items.items)

-- the lowest of rules 2 to 7, or 9 of keys, that the six lists break; 255 where they break none
unfoldable pub script_rule : List Group → WrittenScript → ℕ
script_rule groups script =
    min
    (min
    (min
    (min (min (list_rule groups script.crashes) (list_rule groups script.leaves)) (list_rule groups script.restarts))
    (list_rule groups script.slows))
    (list_rule groups script.pauses))
    (list_rule groups script.blocks)

-- the numbers of each item are in their ranges
pub record HaveNumbers (script : WrittenScript) : Type 0 where
  pub crashes : All HasNumbers script.crashes.items.items
  pub leaves : All HasNumbers script.leaves.items.items
  pub restarts : All HasNumbers script.restarts.items.items
  pub slows : All HasNumbers script.slows.items.items
  pub pauses : All HasNumbers script.pauses.items.items
  pub blocks : All HasNumbers script.blocks.items.items
