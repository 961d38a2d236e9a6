use Rattle.std.proofs.Common.{map, ap, sym, ◌∙◌}
use Rattle.toml.specs.View.{view}
use Rattle.toml.proofs.Views.{view-Array}
use Rattle.schema.specs.Tree.{items_of}
use Rattle.schema.proofs.Trees.{list_of-items}
use Rattle.written_groups.proofs.values.items.Goals as goal

pub returns-in-Array : goal.returns-in-Array
returns-in-Array c =
    ap (map view) c.as_slice.ensures.value ∙ sym (ap (λ v. items_of (view v)) c.in-Array.is ∙ ap items_of (view-Array c.in-Array.items) ∙ list_of-items (map view c.in-Array.items.items))
