use Rattle.std.proofs.Common.{is_some, ap, ◌∙◌}
use Rattle.toml.specs.View.{view}
use Rattle.schema.specs.declared.schema.FormatKey.TheVariants as key
use Rattle.scenario_reader.specs.Reading.{added_items, pause_items}
use Rattle.scenario_reader.specs.Rules.{names_no_member, names_no_group}
use Rattle.scenario_reader.proofs.Trees.{any_items}
use Rattle.scenario_reader.proofs.Chain.{lost_leave, lost_cut, lost_pause}
use Rattle.scenario_reader.proofs.additions.check_added_references.Goals as goal

pub returns-in-Some-clause-err : goal.returns-in-Some-clause-err
returns-in-Some-clause-err c =
    let gs = c.args.roster.now in
    let v = c.args.version in
    let tree = view c.args.tree.now in
    let leaves = any_items (names_no_member gs) (added_items v key.Leave tree) c.added_items.result.now c.first_stranger.result c.added_items.ensures c.first_stranger.ensures in
    (c.in_item.ensures, lost_leave v tree gs (leaves ∙ ap is_some c.in-Some.is))

pub returns-in-Some-first_lost_path-clause-err : goal.returns-in-Some-first_lost_path-clause-err
returns-in-Some-first_lost_path-clause-err c =
    let gs = c.args.roster.now in
    let v = c.args.version in
    let tree = view c.args.tree.now in
    let leaves = any_items (names_no_member gs) (added_items v key.Leave tree) c.added_items.result.now c.first_stranger.result c.added_items.ensures c.first_stranger.ensures in
    let cuts = any_items (names_no_group gs) (added_items v key.Cut tree) c.added_items-2.result.now c.first_lost_path.result c.added_items-2.ensures c.first_lost_path.ensures in
    (c.in_item-in-Some-first_lost_path.ensures, lost_cut v tree gs (leaves ∙ ap is_some c.in_default.is) (cuts ∙ ap is_some c.in-Some-first_lost_path.is))

pub returns-in-Some-first_stranger-clause-err : goal.returns-in-Some-first_stranger-clause-err
returns-in-Some-first_stranger-clause-err c =
    let gs = c.args.roster.now in
    let v = c.args.version in
    let tree = view c.args.tree.now in
    let leaves = any_items (names_no_member gs) (added_items v key.Leave tree) c.added_items.result.now c.first_stranger.result c.added_items.ensures c.first_stranger.ensures in
    let cuts = any_items (names_no_group gs) (added_items v key.Cut tree) c.added_items-2.result.now c.first_lost_path.result c.added_items-2.ensures c.first_lost_path.ensures in
    let pauses = any_items (names_no_member gs) (pause_items v tree) c.pause_items.result.now c.first_stranger-2.result c.pause_items.ensures c.first_stranger-2.ensures in
    (c.in_item-in-Some-first_stranger.ensures, lost_pause v tree gs _ (leaves ∙ ap is_some c.in_default.is) (cuts ∙ ap is_some c.in_default-first_lost_path.is) (pauses ∙ ap is_some c.in-Some-first_stranger.is))

pub returns-in-None-clause-ok : goal.returns-in-None-clause-ok
returns-in-None-clause-ok c =
    let gs = c.args.roster.now in
    let v = c.args.version in
    let tree = view c.args.tree.now in
    let leaves = any_items (names_no_member gs) (added_items v key.Leave tree) c.added_items.result.now c.first_stranger.result c.added_items.ensures c.first_stranger.ensures in
    let cuts = any_items (names_no_group gs) (added_items v key.Cut tree) c.added_items-2.result.now c.first_lost_path.result c.added_items-2.ensures c.first_lost_path.ensures in
    let pauses = any_items (names_no_member gs) (pause_items v tree) c.pause_items.result.now c.first_stranger-2.result c.pause_items.ensures c.first_stranger-2.ensures in
    lost_pause v tree gs _ (leaves ∙ ap is_some c.in_default.is) (cuts ∙ ap is_some c.in_default-first_lost_path.is) (pauses ∙ ap is_some c.in-None.is)
