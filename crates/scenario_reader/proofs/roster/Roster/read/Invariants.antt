use Rattle.std.proofs.Common.{◌≡◌, ◌≤◌, ◌*◌, ◌^◌, map, take, false}
use Rattle.std.specs.List.{sum_by}
use Rattle.toml.specs.View.{view}
use Rattle.scenario_reader.specs.Reading.{plain_group}
use Rattle.scenario_reader.specs.Rules.{breaks_names_in}
use Rattle.scenario_reader.specs.Roster.{named_group, AreNumberedFrom}
use Rattle.scenario_reader.proofs.roster.Roster.read.Given as goal

abbrev pub invariant-loop-i : goal.invariant-loop-i
invariant-loop-i l = record {
  groups : map named_group l.groups.entries ≡ map (λ v. plain_group (view v)) (take l.i l.list);
  fine : breaks_names_in l.fn.version (map (λ v. plain_group (view v)) (take l.i l.list)) ≡ false;
  numbered : AreNumberedFrom 0 (map (λ e. e.1) l.groups.entries);
  first : l.first ≡ sum_by (λ b. b.count) (map (λ e. e.1) l.groups.entries);
  small : l.first ≤ l.i * 2 ^ 64;
}
