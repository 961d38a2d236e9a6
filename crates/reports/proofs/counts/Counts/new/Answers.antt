use Rattle.std.proofs.Common.{refl}
use Rattle.reports.proofs.Counting.{none_counted}
use Rattle.reports.proofs.counts.Counts.new.Goals as goal

pub returns : goal.returns
returns c = record { all = refl; told = none_counted; lost = none_counted; health = refl }
