use Rattle.std.proofs.Common.{◌≡◌, ◌+◌, drop}
use Rattle.script_reader.specs.Who.{member_total, span_of}
use Rattle.script_reader.proofs.who.span_of.Given as goal

abbrev pub invariant-loop-group : goal.invariant-loop-group
invariant-loop-group l = record {
  span : span_of l.first (drop l.group-index l.groups) l.name ≡ span_of 0 l.groups l.name;
  low : l.first + member_total (drop l.group-index l.groups) ≡ member_total l.groups;
}
