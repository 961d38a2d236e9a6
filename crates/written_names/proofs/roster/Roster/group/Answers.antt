use Rattle.std.proofs.Common.{refl, ap, ◌∙◌}
use Rattle.scenario_reader.specs.Reading.{group_named}
use Rattle.written_names.proofs.Find.{group_place}
use Rattle.written_names.proofs.roster.Roster.group.Goals as goal

pub returns : goal.returns
returns c = c.get_index_of.ensures.index ∙ group_place c.args.name.now _ (λ k. refl) c.self.inside.groups.entries ∙ ap (λ gs. group_named gs c.args.name.now) c.self.view_is
