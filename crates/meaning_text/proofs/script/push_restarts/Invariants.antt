use Rattle.std.proofs.Common.{◌≡◌, ◌++◌, take, flat_map}
use Rattle.std.specs.String.{string_bytes}
use Rattle.meaning_text.specs.Lines.{restart_line}
use Rattle.meaning_text.proofs.script.push_restarts.Given as goal

abbrev pub invariant-loop-restart : goal.invariant-loop-restart
invariant-loop-restart l = string_bytes l.text ≡ string_bytes l.initial.text ++ flat_map (restart_line l.scenario) (take l.restart-index l.restarts)
