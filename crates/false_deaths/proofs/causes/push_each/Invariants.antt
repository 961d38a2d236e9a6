use Rattle.std.proofs.Common.{◌≡◌, ◌++◌, take, flat_map}
use Rattle.std.specs.String.{string_bytes}
use Rattle.series.specs.Deaths.{deaths_of}
use Rattle.false_deaths.specs.Causes.{cause}
use Rattle.false_deaths.proofs.causes.push_each.Given as goal

-- those so far
abbrev pub invariant-loop-place : goal.invariant-loop-place
invariant-loop-place l = string_bytes l.text ≡ string_bytes l.initial.text ++ flat_map (cause l.run.tick l.run.scenario.now) (take l.place (deaths_of l.run.tallies.now))
