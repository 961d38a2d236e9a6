use Rattle.std.proofs.Common.{◌≡◌, ◌++◌, flat_map}
use Rattle.std.specs.List.{range_with_len}
use Rattle.std.specs.String.{string_bytes}
use Rattle.meaning_text.specs.Lines.{crash_lines}
use Rattle.meaning_text.proofs.script.push_crashes.Given as goal

abbrev pub invariant-loop-member : goal.invariant-loop-member
invariant-loop-member l = string_bytes l.text ≡ string_bytes l.fn.text ++ flat_map (crash_lines l.scenario) (range_with_len 0 l.member)
