use Rattle.std.proofs.Common.{arith, ◌≡◌, ◌++◌, flat_map, ap, ◌∙◌}
use Rattle.std.proofs.lemmas.Grind.{common_steps}
use Rattle.std.specs.String.{string_bytes}
use Rattle.scenario.specs.SetupOf.{group_of}
use Rattle.run_settings.specs.Settings.{group_entry}
use Rattle.run_settings.proofs.Maps.{flat_map_of_map}
use Rattle.run_settings.proofs.settings.push_groups.Goals as goal

pub returns : goal.returns
returns c =
    let held : string_bytes c.loop-group.text ≡ string_bytes c.args.text.now ++ flat_map (λ group. group_entry c.args.scenario.now (group_of group)) c.args.groups.now = grind (arith, common_steps) in
    held ∙ ap (λ l. string_bytes c.args.text.now ++ l) (flat_map_of_map (group_entry c.args.scenario.now) group_of c.args.groups.now)
