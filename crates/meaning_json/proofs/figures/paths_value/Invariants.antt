use Rattle.std.proofs.Common.{◌≡◌, map}
use Rattle.serde_json.specs.View.{view}
use Rattle.meaning.specs.Each.{made_below}
use Rattle.meaning_json.specs.Figures.{path_item}
use Rattle.meaning_json.proofs.figures.paths_value.Given as goal

abbrev pub invariant-loop-place : goal.invariant-loop-place
invariant-loop-place l = map view l.values.items ≡ made_below (path_item l.scenario) l.scenario.paths l.place
