use Rattle.std.proofs.Common.{◌≡◌, ◌++◌, map, take, drop}
use Rattle.lives.specs.Regards.{reaped}
use Rattle.lives.proofs.regards.reap_all.Given as goal

abbrev pub invariant-loop-place : goal.invariant-loop-place
invariant-loop-place l = l.column ≡ map (reaped l.now l.ticks) (take l.place l.initial.column) ++ drop l.place l.initial.column
