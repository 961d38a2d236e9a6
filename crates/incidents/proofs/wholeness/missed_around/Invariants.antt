use Rattle.std.proofs.Common.{◌≡◌, ◌*◌, ◌≤◌}
use Rattle.incidents.specs.Missed.{pairs_around, misses_in}
use Rattle.incidents.proofs.wholeness.missed_around.Given as goal

-- those so far are counted
abbrev pub invariant-loop-place : goal.invariant-loop-place
invariant-loop-place l = record {
  few : l.missed ≤ 2 * l.place;
  counted : l.missed ≡ pairs_around l.place (misses_in l.odd l.cluster l.lives) l.member;
}
