use Rattle.std.proofs.Common.{take}
use Rattle.scenario.specs.Setup.{leads}
use Rattle.meaning.specs.Trips.{AreLinksBy, last_of}
use Rattle.meaning.proofs.ways.links_to.Given as goal

-- the links by the paths so far
abbrev pub invariant-loop-path : goal.invariant-loop-path
invariant-loop-path l = AreLinksBy (λ h. last_of l.fn.others (leads h l.group) (take l.path-index l.paths)) l.links.items
