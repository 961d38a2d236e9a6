-- The entries of a list: their names, and what they stand for.
use Rattle.std.specs.Prelude.{◌≡◌, ℕ, Bool, false, List, length, map, nat_lt, Option, option_map, string_bytes}
use Rattle.std.specs.Option.{option_map_or}
use Rattle.std.specs.List.{range_with_len}
use Rattle.toml.specs.Data.{Data}
use Rattle.schema.specs.Values.{text_if}
use Rattle.schema.specs.declared.schema.FormatKey.TheVariants as key
use Rattle.script_summary.specs.declared.happening.Happening.{Happening}
use Rattle.script_summary.specs.declared.extent.Extent.{Extent}
use Rattle.script_summary.specs.declared.entries.EntrySummary.{EntrySummary}
use Rattle.script_summary.specs.Extents.{extent_at}

-- the name of an entry
abbrev pub name_of : EntrySummary → Option (List ℕ)
name_of it = option_map string_bytes it.name

-- what it stands for
abbrev pub extent_in : EntrySummary → Option Extent
extent_in it = it.extent

-- it stands for several plain ones
abbrev pub is_several : EntrySummary → Bool
is_several it = option_map_or (λ (e : Extent). nat_lt 1 e.count) it.extent false

-- item by item the entries have their names, and stand for those of `all` that are of their places
pub record AreOf (items : List Data) (all : List Happening) (made : List EntrySummary) : Type 0 where
  pub names : map name_of made ≡ map (text_if key.Name) items
  pub extents : map extent_in made ≡ map (extent_at all) (range_with_len 0 (length items))
