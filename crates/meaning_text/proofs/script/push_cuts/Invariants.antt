use Rattle.std.proofs.Common.{◌≡◌, ◌++◌, take, flat_map}
use Rattle.std.specs.String.{string_bytes}
use Rattle.meaning_text.specs.Lines.{cut_line}
use Rattle.meaning_text.proofs.script.push_cuts.Given as goal

abbrev pub invariant-loop-cut : goal.invariant-loop-cut
invariant-loop-cut l = string_bytes l.text ≡ string_bytes l.initial.text ++ flat_map (cut_line l.scenario) (take l.cut-index l.cuts)
