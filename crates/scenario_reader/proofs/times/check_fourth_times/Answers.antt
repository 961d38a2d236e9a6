use Rattle.std.proofs.Common.{◌≡◌, false, is_some, ap, sym, ◌∙◌}
use Rattle.std.specs.List.{list_any}
use Rattle.toml.specs.View.{view}
use Rattle.schema.specs.Tree.{items_at}
use Rattle.schema.specs.declared.schema.FormatKey.TheVariants as key
use Rattle.schema.specs.declared.schema.Section.TheVariants as section
use Rattle.scenario_reader.specs.Reading.{plain_groups, setup_of_tree}
use Rattle.scenario_reader.specs.Rules.{fourth_breaks_references}
use Rattle.scenario_reader.specs.Times.{asks_itself_in, is_early_restart_in, is_over_in}
use Rattle.scenario_reader.proofs.Trees.{any_items}
use Rattle.scenario_reader.proofs.Chain.{early_restart, asking_itself, block_over}
use Rattle.scenario_reader.proofs.Moments.{early_restarts_same, asking_same, blocks_over_same}
use Rattle.scenario_reader.proofs.times.check_fourth_times.Goals as goal

pub returns-in-Some-clause-err : goal.returns-in-Some-clause-err
returns-in-Some-clause-err c =
    let tree = view c.args.tree.now in
    let s = setup_of_tree tree in
    let gs = c.args.roster.now in
    let known : fourth_breaks_references tree (plain_groups tree) ≡ false = ap (fourth_breaks_references tree) (sym c.requires.groups) ∙ c.requires.known in
    let early = early_restarts_same tree c.requires.version known ∙ ap (λ hs. list_any (is_early_restart_in hs) (items_at key.Restart tree)) (sym c.requires.groups)
    ∙ any_items (is_early_restart_in gs) (items_at key.Restart tree) c.items_at-restarts.result.now c.first_early_restart.result c.items_at-restarts.ensures c.first_early_restart.ensures in
    (c.in_item.ensures, early_restart s (early ∙ ap is_some c.in-Some.is))

pub returns-in-Some-first_asking_itself-clause-err : goal.returns-in-Some-first_asking_itself-clause-err
returns-in-Some-first_asking_itself-clause-err c =
    let tree = view c.args.tree.now in
    let s = setup_of_tree tree in
    let gs = c.args.roster.now in
    let known : fourth_breaks_references tree (plain_groups tree) ≡ false = ap (fourth_breaks_references tree) (sym c.requires.groups) ∙ c.requires.known in
    let early = early_restarts_same tree c.requires.version known ∙ ap (λ hs. list_any (is_early_restart_in hs) (items_at key.Restart tree)) (sym c.requires.groups)
    ∙ any_items (is_early_restart_in gs) (items_at key.Restart tree) c.items_at-restarts.result.now c.first_early_restart.result c.items_at-restarts.ensures c.first_early_restart.ensures in
    let asking = asking_same tree c.requires.version ∙ ap (λ hs. list_any (asks_itself_in hs) (items_at key.Restart tree)) (sym c.requires.groups)
    ∙ any_items (asks_itself_in gs) (items_at key.Restart tree) c.items_at-restarts.result.now c.first_asking_itself.result c.items_at-restarts.ensures c.first_asking_itself.ensures in
    (c.in_item-in-Some-first_asking_itself.ensures, asking_itself s (early ∙ ap is_some c.in_default.is) (asking ∙ ap is_some c.in-Some-first_asking_itself.is))

pub returns-in-Some-first_over-clause-err : goal.returns-in-Some-first_over-clause-err
returns-in-Some-first_over-clause-err c =
    let tree = view c.args.tree.now in
    let s = setup_of_tree tree in
    let gs = c.args.roster.now in
    let known : fourth_breaks_references tree (plain_groups tree) ≡ false = ap (fourth_breaks_references tree) (sym c.requires.groups) ∙ c.requires.known in
    let early = early_restarts_same tree c.requires.version known ∙ ap (λ hs. list_any (is_early_restart_in hs) (items_at key.Restart tree)) (sym c.requires.groups)
    ∙ any_items (is_early_restart_in gs) (items_at key.Restart tree) c.items_at-restarts.result.now c.first_early_restart.result c.items_at-restarts.ensures c.first_early_restart.ensures in
    let asking = asking_same tree c.requires.version ∙ ap (λ hs. list_any (asks_itself_in hs) (items_at key.Restart tree)) (sym c.requires.groups)
    ∙ any_items (asks_itself_in gs) (items_at key.Restart tree) c.items_at-restarts.result.now c.first_asking_itself.result c.items_at-restarts.ensures c.first_asking_itself.ensures in
    let over = blocks_over_same tree c.requires.version ∙ any_items (is_over_in section.Pause) (items_at key.Block tree) c.items_at.result.now c.first_over.result c.items_at.ensures c.first_over.ensures in
    (c.in_item-in-Some-first_over.ensures, block_over s _ (early ∙ ap is_some c.in_default.is) (asking ∙ ap is_some c.in_default-first_asking_itself.is) (over ∙ ap is_some c.in-Some-first_over.is))

pub returns-in-None-clause-ok : goal.returns-in-None-clause-ok
returns-in-None-clause-ok c =
    let tree = view c.args.tree.now in
    let s = setup_of_tree tree in
    let gs = c.args.roster.now in
    let known : fourth_breaks_references tree (plain_groups tree) ≡ false = ap (fourth_breaks_references tree) (sym c.requires.groups) ∙ c.requires.known in
    let early = early_restarts_same tree c.requires.version known ∙ ap (λ hs. list_any (is_early_restart_in hs) (items_at key.Restart tree)) (sym c.requires.groups)
    ∙ any_items (is_early_restart_in gs) (items_at key.Restart tree) c.items_at-restarts.result.now c.first_early_restart.result c.items_at-restarts.ensures c.first_early_restart.ensures in
    let asking = asking_same tree c.requires.version ∙ ap (λ hs. list_any (asks_itself_in hs) (items_at key.Restart tree)) (sym c.requires.groups)
    ∙ any_items (asks_itself_in gs) (items_at key.Restart tree) c.items_at-restarts.result.now c.first_asking_itself.result c.items_at-restarts.ensures c.first_asking_itself.ensures in
    let over = blocks_over_same tree c.requires.version ∙ any_items (is_over_in section.Pause) (items_at key.Block tree) c.items_at.result.now c.first_over.result c.items_at.ensures c.first_over.ensures in
    block_over s _ (early ∙ ap is_some c.in_default.is) (asking ∙ ap is_some c.in_default-first_asking_itself.is) (over ∙ ap is_some c.in-None.is)
