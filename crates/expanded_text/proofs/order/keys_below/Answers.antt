use Rattle.std.proofs.Common.{◌≡◌, ℕ, List, Some, IfOk, map, option_map, ap, sym, subst, ◌∙◌}
use Rattle.toml.specs.Data.{Data, array}
use Rattle.toml.specs.View.{items_view, view}
use Rattle.toml.proofs.Views.{view-Array}
use Rattle.schema.specs.Tree.{keys_of, list_of}
use Rattle.schema.proofs.Trees.{list_of-items}
use Rattle.plain_document.specs.Order.{words}
use Rattle.expanded_text.specs.Order.{tree_items}
use Rattle.expanded_text.proofs.order.keys_below.Goals as goal

pub returns-in-Array : goal.returns-in-Array
returns-in-Array c =
    let items = c.in-Array.items.items in
    let seen : view c.in-Some.value.now ≡ array (items_view items) = ap view c.in-Array.is ∙ view-Array c.in-Array.items in
    let listed : map view c.as_slice.result.now ≡ list_of (items_view items) = ap (map view) c.as_slice.ensures.value ∙ sym (list_of-items (map view items)) in
    let same : map keys_of (map view c.as_slice.result.now) ≡ tree_items (option_map (λ v. view v.now) c.args.value) =
    ap (λ (ds : List Data). map keys_of ds) listed ∙ sym (ap tree_items (ap (option_map (λ v. view v.now)) c.in-Some.is ∙ ap Some seen)) in
    subst (λ (all : List (List (List ℕ))). IfOk c.keys_of_items.result (λ made. map (λ keys. words keys.items) made.items ≡ all)) same c.keys_of_items.ensures
