use Rattle.std.proofs.Common.{◌≡◌, drop}
use Rattle.toml_places.specs.Found.{path_end}
use Rattle.toml_places.proofs.places.Places.find.Given as goal

abbrev pub invariant-loop-step : goal.invariant-loop-step
invariant-loop-step l = path_end l.self l.place (drop l.step-index l.path) ≡ path_end l.self 0 l.path
