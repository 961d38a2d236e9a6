use Rattle.std.proofs.Common.{◌≡◌, ◌++◌}
use Rattle.meaning.specs.Each.{made_below}
use Rattle.warnings.specs.Told.{told_of_path}
use Rattle.warnings.proofs.paths.push_paths.Given as goal

abbrev pub invariant-loop-place : goal.invariant-loop-place
invariant-loop-place l = l.told.items ≡ l.fn.told.items ++ made_below (told_of_path l.scenario) l.scenario.paths l.place
