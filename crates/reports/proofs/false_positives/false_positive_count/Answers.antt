use Rattle.std.proofs.Common.{length, ap, ◌∙◌}
use Rattle.reports.proofs.Makers.{all_false_positives}
use Rattle.reports.proofs.false_positives.false_positive_count.Goals as goal

pub returns : goal.returns
returns c = ap length c.false_positives.ensures ∙ all_false_positives c.args.claim c.args.tallies.now
