use Rattle.std.proofs.Common.{[], length, map, ap, ◌∙◌}
use Rattle.std.proofs.lemmas.List.{length-map}
use Rattle.toml.specs.View.{view}
use Rattle.sweep_plan.specs.Items.{name_of_item}
use Rattle.sweep_plan.proofs.Marks.{length-marks}
use Rattle.sweep_plan.proofs.listed_values.with_meant.Goals as goal

pub with_marked-requires-clause-each : goal.with_marked-requires-clause-each
with_marked-requires-clause-each c =
    let xs = c.args.items.now in
    ap length (c.deref.ensures.value ∙ c.in_ok-marks.ensures) ∙ length-marks c.args.name.now [] (map name_of_item (map view xs)) ∙ length-map (map view xs) name_of_item ∙ length-map xs view
