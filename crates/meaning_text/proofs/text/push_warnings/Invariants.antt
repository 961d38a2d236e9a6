use Rattle.std.proofs.Common.{◌≡◌, ◌++◌, take, flat_map}
use Rattle.std.specs.String.{string_bytes}
use Rattle.meaning_text.specs.Text.{warning_text}
use Rattle.meaning_text.proofs.text.push_warnings.Given as goal

abbrev pub invariant-loop-warning : goal.invariant-loop-warning
invariant-loop-warning l = string_bytes l.text ≡ string_bytes l.initial.text ++ flat_map (warning_text l.file l.scenario l.trip) (take l.warning-index l.placed)
