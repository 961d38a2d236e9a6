use Rattle.toml.specs.View.{view}
use Rattle.std.proofs.Common.{◌∙◌}
use Rattle.schema.specs.declared.schema.FormatKey.TheVariants as key
use Rattle.scenario_reader.specs.Reading.{fourth_items, pause_in, restart_in}
use Rattle.scenario_reader.proofs.Trees.{map_items}
use Rattle.scenario_reader.proofs.lists.read_fourth_script.Goals as goal

pub returns-clause-restarts : goal.returns-clause-restarts
returns-clause-restarts c =
    c.in-Ok.ensures ∙ map_items (restart_in c.args.roster.now) (fourth_items c.args.version key.Restart (view c.args.tree.now)) c.fourth_items.result.now c.fourth_items.ensures

pub returns-clause-blocks : goal.returns-clause-blocks
returns-clause-blocks c =
    c.in-Ok-read_pauses.ensures ∙ map_items (pause_in c.args.roster.now) (fourth_items c.args.version key.Block (view c.args.tree.now)) c.fourth_items-2.result.now c.fourth_items-2.ensures
