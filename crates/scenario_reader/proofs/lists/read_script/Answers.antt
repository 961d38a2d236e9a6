use Rattle.toml.specs.View.{view}
use Rattle.std.proofs.Common.{◌∙◌}
use Rattle.schema.specs.Tree.{items_at}
use Rattle.schema.specs.declared.schema.FormatKey.TheVariants as key
use Rattle.scenario_reader.specs.Reading.{added_items, pause_items, slow_in, crash_in, leave_in, cut_in, pause_in}
use Rattle.scenario_reader.proofs.Trees.{map_items}
use Rattle.scenario_reader.proofs.lists.read_script.Goals as goal

pub returns-clause-slows : goal.returns-clause-slows
returns-clause-slows c = c.in-Ok.ensures ∙ map_items (slow_in c.args.roster.now) (items_at key.Slow (view c.args.tree.now)) c.items_at.result.now c.items_at.ensures

pub returns-clause-crashes : goal.returns-clause-crashes
returns-clause-crashes c = c.in-Ok-read_crashes.ensures ∙ map_items (crash_in c.args.roster.now) (items_at key.Crash (view c.args.tree.now)) c.items_at-2.result.now c.items_at-2.ensures

pub returns-clause-leaves : goal.returns-clause-leaves
returns-clause-leaves c =
    c.in-Ok-read_leaves.ensures ∙ map_items (leave_in c.args.roster.now) (added_items c.args.version key.Leave (view c.args.tree.now)) c.added_items.result.now c.added_items.ensures

pub returns-clause-cuts : goal.returns-clause-cuts
returns-clause-cuts c =
    c.in-Ok-read_cuts.ensures ∙ map_items (cut_in c.args.roster.now) (added_items c.args.version key.Cut (view c.args.tree.now)) c.added_items-2.result.now c.added_items-2.ensures

pub returns-clause-pauses : goal.returns-clause-pauses
returns-clause-pauses c =
    c.in-Ok-read_pauses.ensures ∙ map_items (pause_in c.args.roster.now) (pause_items c.args.version (view c.args.tree.now)) c.pause_items.result.now c.pause_items.ensures
