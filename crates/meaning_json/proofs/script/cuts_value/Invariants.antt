use Rattle.std.proofs.Common.{◌≡◌, map, take, flat_map}
use Rattle.serde_json.specs.View.{view}
use Rattle.meaning_json.specs.Script.{cut_item}
use Rattle.meaning_json.proofs.script.cuts_value.Given as goal

abbrev pub invariant-loop-cut : goal.invariant-loop-cut
invariant-loop-cut l = map view l.values.items ≡ flat_map (cut_item l.scenario) (take l.cut-index l.cuts)
