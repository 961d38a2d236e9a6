use Rattle.std.proofs.Common.{◌||◌, ap, sym, ◌∙◌}
use Rattle.std.specs.List.{list_any, flat_map}
use Rattle.std.proofs.lemmas.Bool.{or_left}
use Rattle.toml.specs.View.{view}
use Rattle.schema.specs.Schema.{key_rules_of}
use Rattle.schema.specs.Tree.{tables_of, tables_below}
use Rattle.schema.specs.Shape.{table_breaks, breaks}
use Rattle.schema.specs.declared.schema.Section.TheVariants.{Top}
use Rattle.schema.proofs.Trees.{any-flat_map}
use Rattle.schema.proofs.shape.first_broken.Goals as goal

pub returns-then-breaks : goal.returns-then-breaks
unfolding breaks tables_of
returns-then-breaks c = sym (or_left _ _ (sym c.if-breaks.ensures))

pub returns : goal.returns
unfolding breaks tables_of
returns c =
    let check = c.args.check in
    let below = tables_below (view c.args.tree.now) in
    c.first_broken_below.ensures
    ∙ ap (λ rows. list_any (λ row. list_any (table_breaks c.args.version check) (below row)) rows) c.rows.ensures
    ∙ sym (any-flat_map (table_breaks c.args.version check) below (key_rules_of c.args.version Top))
    ∙ ap (λ top. top || list_any (table_breaks c.args.version check) (flat_map below (key_rules_of c.args.version Top))) c.if-breaks.ensures
