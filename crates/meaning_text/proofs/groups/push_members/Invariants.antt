use Rattle.std.proofs.Common.{◌≡◌, ◌++◌, codes, flat_map}
use Rattle.std.specs.List.{range_with_len}
use Rattle.std.specs.String.{string_bytes}
use Rattle.reports.specs.Text.{count_line}
use Rattle.scenario.specs.Setup.{member_count}
use Rattle.meaning_text.specs.Lines.{group_line}
use Rattle.meaning_text.proofs.groups.push_members.Given as goal

-- the groups of the members so far
abbrev pub invariant-loop-member : goal.invariant-loop-member
invariant-loop-member l =
    string_bytes l.text ≡ (string_bytes l.fn.text ++ count_line (codes "members") (member_count l.scenario)) ++ flat_map (group_line l.scenario) (range_with_len 0 l.member)
