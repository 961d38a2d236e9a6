use Rattle.std.proofs.Common.{◌≡◌, ◌++◌, flat_map}
use Rattle.std.specs.List.{range_with_len}
use Rattle.std.specs.String.{string_bytes}
use Rattle.meaning_text.specs.Lines.{accusers_line}
use Rattle.meaning_text.proofs.times.push_accusers.Given as goal

abbrev pub invariant-loop-accusers : goal.invariant-loop-accusers
invariant-loop-accusers l = string_bytes l.text ≡ string_bytes l.fn.text ++ flat_map (accusers_line l.scenario) (range_with_len 0 l.accusers)
