use Rattle.std.proofs.Common.{map, string_bytes, take}
use Rattle.std.specs.List.{AllZip}
use Rattle.scenario.specs.Labels.{IsLabelOf}
use Rattle.scenario.proofs.labels.labels_of.Given as goal

-- each name so far has its label
abbrev pub invariant-loop-name : goal.invariant-loop-name
invariant-loop-name l = AllZip IsLabelOf (take l.name-index (map string_bytes l.names)) l.labels.items
