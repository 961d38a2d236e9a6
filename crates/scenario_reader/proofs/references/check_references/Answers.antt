use Rattle.std.proofs.Common.{is_some, ap, ◌∙◌}
use Rattle.toml.specs.View.{view}
use Rattle.schema.specs.Tree.{items_at}
use Rattle.schema.specs.declared.schema.FormatKey.TheVariants as key
use Rattle.scenario_reader.specs.Rules.{has_lost_contact, names_no_member, names_no_group}
use Rattle.scenario_reader.proofs.Trees.{any_items}
use Rattle.scenario_reader.proofs.Chain.{lost_contact, lost_slow, lost_crash, lost_path}
use Rattle.scenario_reader.proofs.references.check_references.Goals as goal

pub returns-in-Some-clause-err : goal.returns-in-Some-clause-err
returns-in-Some-clause-err c =
    let gs = c.args.roster.now in
    let tree = view c.args.tree.now in
    let contacts = any_items (has_lost_contact gs) (items_at key.Group tree) c.items_at.result.now c.first_lost_contact.result c.items_at.ensures c.first_lost_contact.ensures in
    (c.in_item.ensures, lost_contact tree gs (contacts ∙ ap is_some c.in-Some.is))

pub returns-in-Some-first_stranger-clause-err : goal.returns-in-Some-first_stranger-clause-err
returns-in-Some-first_stranger-clause-err c =
    let gs = c.args.roster.now in
    let tree = view c.args.tree.now in
    let contacts = any_items (has_lost_contact gs) (items_at key.Group tree) c.items_at.result.now c.first_lost_contact.result c.items_at.ensures c.first_lost_contact.ensures in
    let slows = any_items (names_no_member gs) (items_at key.Slow tree) c.items_at-2.result.now c.first_stranger.result c.items_at-2.ensures c.first_stranger.ensures in
    (c.in_item-in-Some-first_stranger.ensures, lost_slow tree gs (contacts ∙ ap is_some c.in_default.is) (slows ∙ ap is_some c.in-Some-first_stranger.is))

pub returns-in-Some-first_stranger-2-clause-err : goal.returns-in-Some-first_stranger-2-clause-err
returns-in-Some-first_stranger-2-clause-err c =
    let gs = c.args.roster.now in
    let tree = view c.args.tree.now in
    let contacts = any_items (has_lost_contact gs) (items_at key.Group tree) c.items_at.result.now c.first_lost_contact.result c.items_at.ensures c.first_lost_contact.ensures in
    let slows = any_items (names_no_member gs) (items_at key.Slow tree) c.items_at-2.result.now c.first_stranger.result c.items_at-2.ensures c.first_stranger.ensures in
    let crashes = any_items (names_no_member gs) (items_at key.Crash tree) c.items_at-3.result.now c.first_stranger-2.result c.items_at-3.ensures c.first_stranger-2.ensures in
    (c.in_item-in-Some-first_stranger-2.ensures, lost_crash tree gs (contacts ∙ ap is_some c.in_default.is) (slows ∙ ap is_some c.in_default-first_stranger.is) (crashes ∙ ap is_some c.in-Some-first_stranger-2.is))

pub returns-in-Some-first_lost_path-clause-err : goal.returns-in-Some-first_lost_path-clause-err
returns-in-Some-first_lost_path-clause-err c =
    let gs = c.args.roster.now in
    let tree = view c.args.tree.now in
    let contacts = any_items (has_lost_contact gs) (items_at key.Group tree) c.items_at.result.now c.first_lost_contact.result c.items_at.ensures c.first_lost_contact.ensures in
    let slows = any_items (names_no_member gs) (items_at key.Slow tree) c.items_at-2.result.now c.first_stranger.result c.items_at-2.ensures c.first_stranger.ensures in
    let crashes = any_items (names_no_member gs) (items_at key.Crash tree) c.items_at-3.result.now c.first_stranger-2.result c.items_at-3.ensures c.first_stranger-2.ensures in
    let paths = any_items (names_no_group gs) (items_at key.Path tree) c.items_at-4.result.now c.first_lost_path.result c.items_at-4.ensures c.first_lost_path.ensures in (
      c.in_item-in-Some-first_lost_path.ensures,
      lost_path tree gs _ (contacts ∙ ap is_some c.in_default.is) (slows ∙ ap is_some c.in_default-first_stranger.is) (crashes ∙ ap is_some c.in_default-first_stranger-2.is)
          (paths ∙ ap is_some c.in-Some-first_lost_path.is),
    )

pub returns-in-None-clause-ok : goal.returns-in-None-clause-ok
returns-in-None-clause-ok c =
    let gs = c.args.roster.now in
    let tree = view c.args.tree.now in
    let contacts = any_items (has_lost_contact gs) (items_at key.Group tree) c.items_at.result.now c.first_lost_contact.result c.items_at.ensures c.first_lost_contact.ensures in
    let slows = any_items (names_no_member gs) (items_at key.Slow tree) c.items_at-2.result.now c.first_stranger.result c.items_at-2.ensures c.first_stranger.ensures in
    let crashes = any_items (names_no_member gs) (items_at key.Crash tree) c.items_at-3.result.now c.first_stranger-2.result c.items_at-3.ensures c.first_stranger-2.ensures in
    let paths = any_items (names_no_group gs) (items_at key.Path tree) c.items_at-4.result.now c.first_lost_path.result c.items_at-4.ensures c.first_lost_path.ensures in
    lost_path tree gs _ (contacts ∙ ap is_some c.in_default.is) (slows ∙ ap is_some c.in_default-first_stranger.is) (crashes ∙ ap is_some c.in_default-first_stranger-2.is) (paths ∙ ap is_some c.in-None.is)
