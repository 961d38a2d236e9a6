use Rattle.std.proofs.Common.{◌≡◌, ◌++◌, List, take, flat_map}
use Rattle.std.specs.String.{string_bytes}
use Rattle.series.specs.Accusers.{AreAccusers}
use Rattle.series.specs.declared.accusers.Accusation.{Accusation}
use Rattle.false_deaths.specs.Causes.{accuser_item}
use Rattle.false_deaths.proofs.accusers.push_first.Given as goal

-- those so far
abbrev pub invariant-loop-place : goal.invariant-loop-place
invariant-loop-place l = (list : List Accusation) → AreAccusers l.accusers list → string_bytes l.text ≡ string_bytes l.initial.text ++ flat_map (accuser_item l.time l.scenario) (take l.place list)
