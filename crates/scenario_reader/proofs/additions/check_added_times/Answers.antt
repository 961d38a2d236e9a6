use Rattle.std.proofs.Common.{◌≡◌, false, is_some, Bool, List, ap, sym, ◌∙◌}
use Rattle.std.specs.List.{list_any}
use Rattle.toml.specs.Data.{Data}
use Rattle.toml.specs.View.{view}
use Rattle.schema.specs.declared.schema.Version.{Version}
use Rattle.schema.specs.declared.schema.FormatKey.TheVariants as key
use Rattle.schema.specs.declared.schema.Section.TheVariants as section
use Rattle.scenario.specs.Setup.{Group}
use Rattle.scenario_reader.specs.Reading.{version_of, added_items, pause_items, plain_groups, setup_of_tree}
use Rattle.scenario_reader.specs.Rules.{is_early_leave, is_cut_over, is_pause_over, breaks_added_references}
use Rattle.scenario_reader.specs.Times.{is_early_in, is_cut_over_in, is_over_in}
use Rattle.scenario_reader.proofs.Trees.{any_items}
use Rattle.scenario_reader.proofs.Chain.{early_leave, cut_over, pause_over}
use Rattle.scenario_reader.proofs.Moments.{early_leaves_same, cuts_over_same, pauses_over_same}
use Rattle.scenario_reader.proofs.additions.check_added_times.Goals as goal

-- what is looked at in the document, of the groups and in the version that were read, is what the scenario says
module _ (tree : Data) (gs : List Group) (v : Version) (groups : gs ≡ plain_groups tree) (version : v ≡ version_of tree) where
  leaves_are : breaks_added_references v tree gs ≡ false → list_any (is_early_leave (setup_of_tree tree)) (setup_of_tree tree).leaves ≡ list_any (is_early_in gs) (added_items v key.Leave tree)
  leaves_are known =
      early_leaves_same tree (ap (λ w. breaks_added_references w tree (plain_groups tree)) (sym version) ∙ ap (breaks_added_references v tree) (sym groups) ∙ known)
      ∙ ap (λ w. list_any (is_early_in (plain_groups tree)) (added_items w key.Leave tree)) (sym version)
      ∙ ap (λ hs. list_any (is_early_in hs) (added_items v key.Leave tree)) (sym groups)

  cuts_are : list_any is_cut_over (setup_of_tree tree).cuts ≡ list_any is_cut_over_in (added_items v key.Cut tree)
  cuts_are = cuts_over_same tree ∙ ap (λ w. list_any is_cut_over_in (added_items w key.Cut tree)) (sym version)

  pauses_are : list_any is_pause_over (setup_of_tree tree).pauses ≡ list_any (is_over_in section.Pause) (pause_items v tree)
  pauses_are = pauses_over_same tree ∙ ap (λ w. list_any (is_over_in section.Pause) (pause_items w tree)) (sym version)

pub returns-in-Some-clause-err : goal.returns-in-Some-clause-err
returns-in-Some-clause-err c =
    let tree = view c.args.tree.now in
    let gs = c.args.roster.now in
    let v = c.args.version in
    let leaves = leaves_are tree gs v c.requires.groups c.requires.version c.requires.known ∙ any_items (is_early_in gs) (added_items v key.Leave tree) c.added_items.result.now c.first_early.result c.added_items.ensures c.first_early.ensures in
    (c.in_item.ensures, early_leave (setup_of_tree tree) (leaves ∙ ap is_some c.in-Some.is))

pub returns-in-Some-first_cut_over-clause-err : goal.returns-in-Some-first_cut_over-clause-err
returns-in-Some-first_cut_over-clause-err c =
    let tree = view c.args.tree.now in
    let gs = c.args.roster.now in
    let v = c.args.version in
    let leaves = leaves_are tree gs v c.requires.groups c.requires.version c.requires.known ∙ any_items (is_early_in gs) (added_items v key.Leave tree) c.added_items.result.now c.first_early.result c.added_items.ensures c.first_early.ensures in
    let cuts = cuts_are tree gs v c.requires.groups c.requires.version ∙ any_items is_cut_over_in (added_items v key.Cut tree) c.added_items-2.result.now c.first_cut_over.result c.added_items-2.ensures c.first_cut_over.ensures in
    (c.in_item-in-Some-first_cut_over.ensures, cut_over (setup_of_tree tree) (leaves ∙ ap is_some c.in_default.is) (cuts ∙ ap is_some c.in-Some-first_cut_over.is))

pub returns-in-Some-first_over-clause-err : goal.returns-in-Some-first_over-clause-err
returns-in-Some-first_over-clause-err c =
    let tree = view c.args.tree.now in
    let gs = c.args.roster.now in
    let v = c.args.version in
    let leaves = leaves_are tree gs v c.requires.groups c.requires.version c.requires.known ∙ any_items (is_early_in gs) (added_items v key.Leave tree) c.added_items.result.now c.first_early.result c.added_items.ensures c.first_early.ensures in
    let cuts = cuts_are tree gs v c.requires.groups c.requires.version ∙ any_items is_cut_over_in (added_items v key.Cut tree) c.added_items-2.result.now c.first_cut_over.result c.added_items-2.ensures c.first_cut_over.ensures in
    let pauses = pauses_are tree gs v c.requires.groups c.requires.version ∙ any_items (is_over_in section.Pause) (pause_items v tree) c.pause_items.result.now c.first_over.result c.pause_items.ensures c.first_over.ensures in
    (c.in_item-in-Some-first_over.ensures, pause_over (setup_of_tree tree) _ (leaves ∙ ap is_some c.in_default.is) (cuts ∙ ap is_some c.in_default-first_cut_over.is) (pauses ∙ ap is_some c.in-Some-first_over.is))

pub returns-in-None-clause-ok : goal.returns-in-None-clause-ok
returns-in-None-clause-ok c =
    let tree = view c.args.tree.now in
    let gs = c.args.roster.now in
    let v = c.args.version in
    let leaves = leaves_are tree gs v c.requires.groups c.requires.version c.requires.known ∙ any_items (is_early_in gs) (added_items v key.Leave tree) c.added_items.result.now c.first_early.result c.added_items.ensures c.first_early.ensures in
    let cuts = cuts_are tree gs v c.requires.groups c.requires.version ∙ any_items is_cut_over_in (added_items v key.Cut tree) c.added_items-2.result.now c.first_cut_over.result c.added_items-2.ensures c.first_cut_over.ensures in
    let pauses = pauses_are tree gs v c.requires.groups c.requires.version ∙ any_items (is_over_in section.Pause) (pause_items v tree) c.pause_items.result.now c.first_over.result c.pause_items.ensures c.first_over.ensures in
    pause_over (setup_of_tree tree) _ (leaves ∙ ap is_some c.in_default.is) (cuts ∙ ap is_some c.in_default-first_cut_over.is) (pauses ∙ ap is_some c.in-None.is)
