use Rattle.std.proofs.Common.{◌≡◌, ◌++◌}
use Rattle.std.specs.String.{string_bytes}
use Rattle.meaning.specs.Each.{made_below}
use Rattle.meaning_text.specs.Lines.{path_line}
use Rattle.meaning_text.proofs.paths.push_paths.Given as goal

abbrev pub invariant-loop-place : goal.invariant-loop-place
invariant-loop-place l = string_bytes l.text ≡ string_bytes l.fn.text ++ made_below (path_line l.scenario) l.scenario.paths l.place
