use Rattle.std.proofs.Common.{append_assoc}
use Rattle.reports.specs.Text.{latency_line}
use Rattle.reports.proofs.text.push_latency.Goals as goal

pub returns : goal.returns
unfolding latency_line
returns c = simp append_assoc c.writeln.ensures.bytes
