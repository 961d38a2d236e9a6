use Rattle.std.proofs.Common.{◌≡◌, ◌++◌, map, take}
use Rattle.serde_json.specs.View.{view}
use Rattle.meaning_json.specs.Summaries.{entry_items}
use Rattle.meaning_json.proofs.summaries.push_entries.Given as goal

abbrev pub invariant-loop-entry : goal.invariant-loop-entry
invariant-loop-entry l = map view l.values.items ≡ map view l.initial.values.items ++ entry_items l.kind l.scenario (take l.entry-index l.entries)
