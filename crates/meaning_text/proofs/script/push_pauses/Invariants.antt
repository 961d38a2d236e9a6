use Rattle.std.proofs.Common.{◌≡◌, ◌++◌, take, flat_map}
use Rattle.std.specs.String.{string_bytes}
use Rattle.meaning_text.specs.Lines.{pause_line}
use Rattle.meaning_text.proofs.script.push_pauses.Given as goal

abbrev pub invariant-loop-pause : goal.invariant-loop-pause
invariant-loop-pause l = string_bytes l.text ≡ string_bytes l.initial.text ++ flat_map (pause_line l.scenario l.word) (take l.pause-index l.pauses)
