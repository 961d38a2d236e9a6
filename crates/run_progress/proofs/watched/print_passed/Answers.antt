use Rattle.std.proofs.Common.{append_assoc}
use Rattle.run_progress.specs.Lines.{passed_line}
use Rattle.run_progress.proofs.watched.print_passed.Goals as goal

pub returns : goal.returns
unfolding passed_line
returns g c = simp append_assoc (simp c.shares_passed-percent.ensures at c.writeln.ensures.bytes)
