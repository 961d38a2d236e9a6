use Rattle.std.proofs.Common.{◌≡◌, map, take}
use Rattle.toml.specs.View.{view}
use Rattle.sweep_plan.specs.Document.{data_of, with_marked}
use Rattle.sweep_plan.proofs.listed_values.with_marked.Given as goal

abbrev pub invariant-loop-place : goal.invariant-loop-place
invariant-loop-place l = map view l.changed.items ≡ with_marked l.key (data_of l.value) (take l.place l.marks) (map view (take l.place l.items))
