use Rattle.std.proofs.Common.{◌≡◌, map, take}
use Rattle.std.specs.List.{filter}
use Rattle.scenario.specs.Setup.{leads, last_link}
use Rattle.scenario.proofs.scenario.last_link.Given as goal

abbrev pub invariant-loop-path : goal.invariant-loop-path
invariant-loop-path l = l.last ≡ last_link l.fn.link (map (λ p. p.link) (filter (leads l.from l.to) (take l.path-index l.paths)))
