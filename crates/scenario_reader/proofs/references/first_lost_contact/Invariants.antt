use Rattle.std.proofs.Common.{◌≡◌, false, take}
use Rattle.std.specs.List.{list_any}
use Rattle.toml.specs.View.{view}
use Rattle.scenario_reader.specs.Rules.{has_lost_contact}
use Rattle.scenario_reader.proofs.references.first_lost_contact.Given as goal

abbrev pub invariant-loop-i : goal.invariant-loop-i
invariant-loop-i l = list_any (λ v. has_lost_contact l.roster (view v)) (take l.i l.list) ≡ false
