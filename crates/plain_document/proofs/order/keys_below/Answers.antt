use Rattle.std.proofs.Common.{◌≡◌, Some, map, option_map, ap, sym, ◌∙◌}
use Rattle.toml.specs.Data.{array}
use Rattle.toml.specs.View.{items_view, view}
use Rattle.toml.proofs.Views.{view-Array}
use Rattle.schema.specs.Tree.{list_of}
use Rattle.schema.proofs.Trees.{list_of-items}
use Rattle.plain_document.specs.Order.{words}
use Rattle.plain_document.proofs.Ordered.{list_ordered}
use Rattle.plain_document.proofs.order.keys_below.Goals as goal

pub returns-in-Array : goal.returns-in-Array
returns-in-Array c =
    let items = c.in-Array.items.items in
    let seen : view c.in-Some.value.now ≡ array (items_view items) = ap view c.in-Array.is ∙ view-Array c.in-Array.items in
    let listed : map view c.as_slice.result.now ≡ list_of (items_view items) = ap (map view) c.as_slice.ensures.value ∙ sym (list_of-items (map view items)) in
    list_ordered c.keys_of_items.result (λ made. map (λ keys. words keys.items) made.items) c.args.places.now c.args.place _ (items_view items) (map view c.as_slice.result.now)
    (ap (option_map (λ v. view v.now)) c.in-Some.is ∙ ap Some seen) listed c.keys_of_items.ensures
