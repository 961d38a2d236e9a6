use Rattle.std.proofs.Common.{◌≡◌, ◌++◌}
use Rattle.meaning.specs.Each.{made_below}
use Rattle.warnings.specs.Told.{told_of_pause}
use Rattle.warnings.proofs.pauses.push_pauses.Given as goal

abbrev pub invariant-loop-place : goal.invariant-loop-place
invariant-loop-place l = l.told.items ≡ l.fn.told.items ++ made_below (told_of_pause l.scenario) l.scenario.pauses l.place
