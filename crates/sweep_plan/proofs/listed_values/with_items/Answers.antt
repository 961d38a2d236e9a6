use Rattle.std.proofs.Common.{map, sym, ap, ◌∙◌}
use Rattle.toml.specs.Data.{Data, array}
use Rattle.toml.specs.View.{view, items_of as as_items}
use Rattle.toml.proofs.Views.{view-Array}
use Rattle.schema.proofs.Trees.{list_of-items}
use Rattle.sweep_plan.specs.Document.{data_of, with_items, with_marked}
use Rattle.sweep_plan.specs.Meant.{marks_of}
use Rattle.sweep_plan.proofs.listed_values.with_items.Goals as goal

pub returns-in_ok-changed-in-Array : goal.returns-in_ok-changed-in-Array
returns-in_ok-changed-in-Array c =
    let items = c.in-Array.items in
    let name = c.args.name.now in
    let all : Data → Data = with_items name c.args.key (data_of c.args.value) in
    view-Array c.in_ok-changed-in-Array.changed
    ∙ ap (λ l. array (as_items l)) (c.in_ok-changed-in-Array.ensures ∙ ap (λ l. with_marked c.args.key (data_of c.args.value) (marks_of name (map view l)) (map view l)) c.as_slice.ensures.value
    ∙ ap (λ l. with_marked c.args.key (data_of c.args.value) (marks_of name l) l) (sym (list_of-items (map view items.items))))
    ∙ sym (ap (λ v. all (view v)) c.in-Array.is ∙ ap all (view-Array items))
