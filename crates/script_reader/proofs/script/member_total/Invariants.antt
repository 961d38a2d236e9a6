use Rattle.std.proofs.Common.{◌≡◌, ◌≤◌, ◌+◌, ◌*◌, ◌^◌, drop}
use Rattle.script_reader.specs.Who.{member_total}
use Rattle.script_reader.proofs.script.member_total.Given as goal

abbrev pub invariant-loop-group : goal.invariant-loop-group
invariant-loop-group l = record {
  rest : l.total + member_total (drop l.group-index l.groups) ≡ member_total l.groups;
  low : l.total ≤ l.group-index * 2 ^ 64;
}
