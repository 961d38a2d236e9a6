use Rattle.std.proofs.Common.{◌∙◌, arith}
use Rattle.incidents.specs.Incidents.{has_died}
use Rattle.incidents.specs.Kept.{count_of}
use Rattle.incidents.proofs.Counting.{marked_members}
use Rattle.incidents.proofs.incidents.Incidents.members.Goals as goal

pub returns : goal.returns
returns c rows are =
    let count = count_of c.args.self.now.cluster in
    c.members.ensures ∙ marked_members c.args.self.now.counts.died.items (has_died count rows) count (omega (arith, are.counts.members)) are.counts.died
