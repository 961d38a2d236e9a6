use Rattle.std.proofs.Common.{◌≡◌, ◌∷◌, List, Vec, String, Global, ℕ, map, drop, string_bytes, ap, sym, ◌∙◌}
use Rattle.plain_text.specs.Document.{expression_of}
use Rattle.toml.specs.Data.{array, table}
use Rattle.toml.specs.View.{items_view, members_view, view}
use Rattle.toml.proofs.Views.{view-Array, view-Table}
use Rattle.schema.specs.Tree.{list_of}
use Rattle.schema.proofs.Trees.{list_of-items}
use Rattle.plain_document.specs.Order.{words}
use Rattle.plain_document.proofs.Walks.{array_adds, first_of, lent, none_adds, none_of, not_lent, table_adds}
use Rattle.plain_document.proofs.document.add_value.Goals as goal

abbrev keys_of : Vec (String Global) Global → List (List ℕ)
keys_of keys = words keys.items

pub returns-in-Array : goal.returns-in-Array
returns-in-Array c =
    let seen : view c.args.value.now ≡ array (items_view c.in-Array.items.items) = ap view c.in-Array.is ∙ view-Array c.in-Array.items in
    let listed : map view c.as_slice.result.now ≡ list_of (items_view c.in-Array.items.items) = ap (map view) c.as_slice.ensures.value ∙ sym (list_of-items (map view c.in-Array.items.items)) in
    array_adds c.add_items.result c.args.tick _ _ _ _ (view c.args.value.now) (items_view c.in-Array.items.items) _ _ _ seen listed c.as_str-name.ensures.value
    (ap (map keys_of) c.as_slice-key_lists.ensures.value) c.add_items.ensures

pub returns-in-Some : goal.returns-in-Some
returns-in-Some c =
    let seen : view c.args.value.now ≡ table (members_view c.in-Table.field-0.entries) = ap view c.in-Table.is ∙ view-Table c.in-Table.field-0 in
    let lists = c.as_slice-key_lists.result.now in
    let it = lent lists 0 c.first.result c.in-Some.keys c.in-Some.is c.first.ensures.item in
    let listed : map keys_of c.args.section.now.items.items ≡ keys_of c.in-Some.keys.now ∷ map keys_of (drop 1 lists) =
    ap (map keys_of) (sym c.as_slice-key_lists.ensures.value) ∙ first_of keys_of lists c.in-Some.keys.now it.0 it.1 in
    table_adds c.add_table.result c.args.tick _ _ _ _ (view c.args.value.now) (members_view c.in-Table.field-0.entries) _ (keys_of c.in-Some.keys.now) _ (map keys_of (drop 1 lists)) seen
    c.as_str-name.ensures.value (ap (map string_bytes) c.as_slice-in-Some.ensures.value) listed c.add_table.ensures

pub returns-in-None : goal.returns-in-None
returns-in-None c =
    let seen : view c.args.value.now ≡ table (members_view c.in-Table.field-0.entries) = ap view c.in-Table.is ∙ view-Table c.in-Table.field-0 in
    let lists = c.as_slice-key_lists.result.now in
    let past = not_lent lists 0 c.first.result c.in-None.is c.first.ensures.item in
    none_adds c.args.tick (string_bytes c.args.section.now.name) (view c.args.value.now) (members_view c.in-Table.field-0.entries) (map keys_of c.args.section.now.items.items)
    (map expression_of c.args.lines.now.items) seen
    (ap (map keys_of) (sym c.as_slice-key_lists.ensures.value) ∙ none_of keys_of lists past)
