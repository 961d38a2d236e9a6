use Rattle.std.proofs.Common.{◌≡◌, ◌++◌, take, flat_map}
use Rattle.std.specs.String.{string_bytes}
use Rattle.meaning_text.specs.Lines.{slow_line}
use Rattle.meaning_text.proofs.script.push_slows.Given as goal

abbrev pub invariant-loop-slow : goal.invariant-loop-slow
invariant-loop-slow l = string_bytes l.text ≡ string_bytes l.initial.text ++ flat_map (slow_line l.scenario) (take l.slow-index l.slows)
