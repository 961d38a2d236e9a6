use Rattle.std.proofs.Common.{◌∙◌}
use Rattle.written_groups.proofs.groups.group.Goals as goal

pub returns : goal.returns
returns c = record { name = c.in_ok-copied.ensures ∙ c.text_at.ensures; count = c.count_at.ensures; start = c.number_at.ensures }
