use Rattle.std.proofs.Common.{ap, ◌∙◌}
use Rattle.meaning.specs.Groups.{groups_of, size_of}
use Rattle.meaning_text.proofs.groups.size_of_group.Goals as goal

pub returns : goal.returns
returns c =
    c.size_of.ensures ∙ ap (λ gs. size_of gs c.group_number-number.result) c.requires.groups ∙ ap (size_of (groups_of c.args.scenario.now)) c.group_number-number.ensures
