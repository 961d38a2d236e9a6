use Rattle.std.proofs.Common.{◌≡◌, take}
use Rattle.std.specs.List.{flat_map}
use Rattle.toml.specs.View.{view}
use Rattle.script_reader.specs.Who.{found_in}
use Rattle.script_reader.proofs.who.found_among.Given as goal

-- those of the names so far
abbrev pub invariant-loop-name : goal.invariant-loop-name
invariant-loop-name l = l.made.items ≡ flat_map (λ v. found_in l.roster (view v)) (take l.name-index l.names)
