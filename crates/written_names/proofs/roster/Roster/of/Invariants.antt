use Rattle.std.proofs.Common.{◌≡◌, ◌≤◌, ◌*◌, ◌^◌, map, take, false}
use Rattle.std.specs.List.{sum_by}
use Rattle.written_names.specs.Names.{breaks_names}
use Rattle.written_names.specs.Roster.{group_of, named_group, AreNumberedFrom}
use Rattle.written_names.proofs.roster.Roster.of.Given as goal

abbrev pub invariant-loop-i : goal.invariant-loop-i
invariant-loop-i l = record {
  groups : map named_group l.groups.entries ≡ map group_of (take l.i l.list);
  fine : breaks_names (map group_of (take l.i l.list)) ≡ false;
  numbered : AreNumberedFrom 0 (map (λ e. e.1) l.groups.entries);
  first : l.first ≡ sum_by (λ b. b.count) (map (λ e. e.1) l.groups.entries);
  small : l.first ≤ l.i * 2 ^ 64;
}
