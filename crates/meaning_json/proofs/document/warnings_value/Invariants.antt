use Rattle.std.proofs.Common.{◌≡◌, map, take}
use Rattle.serde_json.specs.View.{view}
use Rattle.meaning_json.specs.Document.{warning_data}
use Rattle.meaning_json.proofs.document.warnings_value.Given as goal

abbrev pub invariant-loop-warning : goal.invariant-loop-warning
invariant-loop-warning l = map view l.values.items ≡ map (warning_data l.scenario l.trip) (take l.warning-index l.placed)
