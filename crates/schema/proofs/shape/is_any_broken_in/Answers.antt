use Rattle.std.proofs.Common.{map, Some, ap, sym, ◌∙◌}
use Rattle.std.specs.List.{list_any}
use Rattle.toml.specs.View.{view}
use Rattle.schema.specs.Tree.{section_table, tables_at}
use Rattle.schema.specs.Shape.{table_is_broken}
use Rattle.schema.proofs.Trees.{any-map}
use Rattle.schema.proofs.shape.is_any_broken_in.Goals as goal

pub returns-in-List : goal.returns-in-List
returns-in-List c =
    let section = c.in-List.section in
    let items = c.items.result.now in
    let broken = table_is_broken c.args.version in
    c.is_any_item_broken.ensures
    ∙ sym (any-map (λ d. broken (section_table section d)) view items)
    ∙ sym (any-map broken (section_table section) (map view items))
    ∙ ap (λ ds. list_any broken (map (section_table section) ds)) c.items.ensures
    ∙ ap (λ kind. list_any broken (tables_at kind (Some (view c.args.value.now)))) (sym c.in-List.is)
