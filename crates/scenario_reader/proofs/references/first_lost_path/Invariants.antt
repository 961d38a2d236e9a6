use Rattle.std.proofs.Common.{◌≡◌, false, take}
use Rattle.std.specs.List.{list_any}
use Rattle.toml.specs.View.{view}
use Rattle.scenario_reader.specs.Rules.{names_no_group}
use Rattle.scenario_reader.proofs.references.first_lost_path.Given as goal

abbrev pub invariant-loop-i : goal.invariant-loop-i
invariant-loop-i l = list_any (λ v. names_no_group l.roster (view v)) (take l.i l.list) ≡ false
