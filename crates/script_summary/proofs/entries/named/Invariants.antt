use Rattle.std.proofs.Common.{◌≡◌, map, take}
use Rattle.toml.specs.View.{view}
use Rattle.schema.specs.Values.{text_if}
use Rattle.schema.specs.declared.schema.FormatKey.TheVariants as key
use Rattle.script_summary.specs.Entries.{extent_in, name_of}
use Rattle.script_summary.proofs.entries.named.Given as goal

abbrev pub invariant-loop-place : goal.invariant-loop-place
invariant-loop-place l = (map name_of l.made.items ≡ map (text_if key.Name) (map view (take l.place l.items))) × (map extent_in l.made.items ≡ take l.place l.extents)
