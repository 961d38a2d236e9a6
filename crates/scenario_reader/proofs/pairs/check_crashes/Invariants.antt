use Rattle.std.proofs.Common.{◌≡◌, map, take, false}
use Rattle.toml.specs.View.{view}
use Rattle.scenario_reader.specs.Reading.{crash_in}
use Rattle.scenario_reader.specs.Rules.{any_two, is_same_member}
use Rattle.scenario_reader.proofs.pairs.check_crashes.Given as goal

abbrev pub invariant-loop-i : goal.invariant-loop-i
invariant-loop-i l = record {
  members : l.members.keys ≡ map (λ v. (crash_in l.roster (view v)).member) (take l.i l.list);
  fine : any_two is_same_member (map (λ v. crash_in l.roster (view v)) (take l.i l.list)) ≡ false;
}
