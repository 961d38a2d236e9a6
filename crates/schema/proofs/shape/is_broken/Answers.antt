use Rattle.std.proofs.Common.{◌||◌, ap, sym, ◌∙◌}
use Rattle.std.specs.List.{list_any, flat_map}
use Rattle.std.proofs.lemmas.Bool.{or_left}
use Rattle.toml.specs.View.{view}
use Rattle.schema.specs.Schema.{key_rules_of}
use Rattle.schema.specs.Tree.{tables_of, tables_below}
use Rattle.schema.specs.Shape.{table_is_broken, is_broken}
use Rattle.schema.specs.declared.schema.Section.TheVariants.{Top}
use Rattle.schema.proofs.Trees.{any-flat_map}
use Rattle.schema.proofs.shape.is_broken.Goals as goal

pub returns-then-is_table_broken : goal.returns-then-is_table_broken
unfolding is_broken tables_of
returns-then-is_table_broken c = sym (or_left _ _ (sym c.if-is_table_broken.ensures))

pub returns : goal.returns
unfolding is_broken tables_of
returns c =
    let version = c.args.version in
    let below = tables_below (view c.args.tree.now) in
    c.is_any_broken_below.ensures
    ∙ ap (λ rows. list_any (λ row. list_any (table_is_broken version) (below row)) rows) c.rows.ensures
    ∙ sym (any-flat_map (table_is_broken version) below (key_rules_of version Top))
    ∙ ap (λ top. top || list_any (table_is_broken version) (flat_map below (key_rules_of version Top))) c.if-is_table_broken.ensures
