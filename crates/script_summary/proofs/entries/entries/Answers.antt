use Rattle.std.proofs.Common.{◌∙◌, ap, length, List, Option}
use Rattle.std.proofs.lemmas.List.FromFn.{length-map-range_with_len}
use Rattle.script_summary.specs.declared.extent.Extent.{Extent}
use Rattle.script_summary.specs.Extents.{extent_at}
use Rattle.script_summary.proofs.entries.entries.Goals as goal

pub named-requires : goal.named-requires
named-requires c =
    ap (λ (l : List (Option Extent)). length l) (c.as_slice.ensures.value ∙ c.in_ok-extents.ensures)
    ∙ length-map-range_with_len (extent_at c.args.all.now) 0 (length c.args.items.now)
