use Rattle.std.proofs.Common.{◌≡◌, drop}
use Rattle.piggyback.specs.Keyed.{begins_with}
use Rattle.piggyback.proofs.front.begin_with.Given as goal

-- the updates so far have their entries
abbrev pub invariant-loop-place : goal.invariant-loop-place
invariant-loop-place l = begins_with (drop l.place l.updates) (drop l.place l.entries) ≡ begins_with l.updates l.entries
