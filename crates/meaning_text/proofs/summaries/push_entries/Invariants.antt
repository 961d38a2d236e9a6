use Rattle.std.proofs.Common.{◌≡◌, ◌++◌, take}
use Rattle.std.specs.String.{string_bytes}
use Rattle.meaning_text.specs.Summaries.{entry_lines}
use Rattle.meaning_text.proofs.summaries.push_entries.Given as goal

abbrev pub invariant-loop-entry : goal.invariant-loop-entry
invariant-loop-entry l = string_bytes l.text ≡ string_bytes l.initial.text ++ entry_lines l.kind l.scenario (take l.entry-index l.entries)
