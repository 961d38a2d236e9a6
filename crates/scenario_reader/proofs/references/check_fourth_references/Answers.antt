use Rattle.std.proofs.Common.{is_some, ap, ◌∙◌}
use Rattle.toml.specs.View.{view}
use Rattle.schema.specs.Tree.{items_at}
use Rattle.schema.specs.declared.schema.FormatKey.TheVariants as key
use Rattle.scenario_reader.specs.Rules.{has_lost_contact, names_no_member}
use Rattle.scenario_reader.proofs.Trees.{any_items}
use Rattle.scenario_reader.proofs.Chain.{lost_restart, lost_restart_contact, lost_block}
use Rattle.scenario_reader.proofs.references.check_fourth_references.Goals as goal

pub returns-in-Some-clause-err : goal.returns-in-Some-clause-err
returns-in-Some-clause-err c =
    let gs = c.args.roster.now in
    let tree = view c.args.tree.now in
    let restarts = any_items (names_no_member gs) (items_at key.Restart tree) c.items_at.result.now c.first_stranger.result c.items_at.ensures c.first_stranger.ensures in
    (c.in_item.ensures, lost_restart tree gs (restarts ∙ ap is_some c.in-Some.is))

pub returns-in-Some-first_lost_contact-clause-err : goal.returns-in-Some-first_lost_contact-clause-err
returns-in-Some-first_lost_contact-clause-err c =
    let gs = c.args.roster.now in
    let tree = view c.args.tree.now in
    let restarts = any_items (names_no_member gs) (items_at key.Restart tree) c.items_at.result.now c.first_stranger.result c.items_at.ensures c.first_stranger.ensures in
    let contacts = any_items (has_lost_contact gs) (items_at key.Restart tree) c.items_at-2.result.now c.first_lost_contact.result c.items_at-2.ensures c.first_lost_contact.ensures in
    (c.in_item-in-Some-first_lost_contact.ensures, lost_restart_contact tree gs (restarts ∙ ap is_some c.in_default.is) (contacts ∙ ap is_some c.in-Some-first_lost_contact.is))

pub returns-in-Some-first_stranger-clause-err : goal.returns-in-Some-first_stranger-clause-err
returns-in-Some-first_stranger-clause-err c =
    let gs = c.args.roster.now in
    let tree = view c.args.tree.now in
    let restarts = any_items (names_no_member gs) (items_at key.Restart tree) c.items_at.result.now c.first_stranger.result c.items_at.ensures c.first_stranger.ensures in
    let contacts = any_items (has_lost_contact gs) (items_at key.Restart tree) c.items_at-2.result.now c.first_lost_contact.result c.items_at-2.ensures c.first_lost_contact.ensures in
    let blocks = any_items (names_no_member gs) (items_at key.Block tree) c.items_at-3.result.now c.first_stranger-2.result c.items_at-3.ensures c.first_stranger-2.ensures in
    (c.in_item-in-Some-first_stranger.ensures, lost_block tree gs _ (restarts ∙ ap is_some c.in_default.is) (contacts ∙ ap is_some c.in_default-first_lost_contact.is) (blocks ∙ ap is_some c.in-Some-first_stranger.is))

pub returns-in-None-clause-ok : goal.returns-in-None-clause-ok
returns-in-None-clause-ok c =
    let gs = c.args.roster.now in
    let tree = view c.args.tree.now in
    let restarts = any_items (names_no_member gs) (items_at key.Restart tree) c.items_at.result.now c.first_stranger.result c.items_at.ensures c.first_stranger.ensures in
    let contacts = any_items (has_lost_contact gs) (items_at key.Restart tree) c.items_at-2.result.now c.first_lost_contact.result c.items_at-2.ensures c.first_lost_contact.ensures in
    let blocks = any_items (names_no_member gs) (items_at key.Block tree) c.items_at-3.result.now c.first_stranger-2.result c.items_at-3.ensures c.first_stranger-2.ensures in
    lost_block tree gs _ (restarts ∙ ap is_some c.in_default.is) (contacts ∙ ap is_some c.in_default-first_lost_contact.is) (blocks ∙ ap is_some c.in-None.is)
