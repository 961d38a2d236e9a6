use Rattle.std.proofs.Common.{◌≡◌, ◌++◌}
use Rattle.meaning.specs.Each.{made_below}
use Rattle.warnings.specs.Told.{told_of_slow}
use Rattle.warnings.proofs.slows.push_slows.Given as goal

abbrev pub invariant-loop-place : goal.invariant-loop-place
invariant-loop-place l = l.told.items ≡ l.fn.told.items ++ made_below (told_of_slow l.scenario l.trip) l.scenario.slows l.place
