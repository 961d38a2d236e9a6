use Rattle.std.proofs.Common.{ap, ◌∙◌}
use Rattle.meaning.specs.Groups.{group_name}
use Rattle.meaning_text.proofs.groups.name_of_group.Goals as goal

pub returns : goal.returns
returns c = c.group_name.ensures ∙ ap (group_name c.args.scenario.now) c.group_number-number.ensures
