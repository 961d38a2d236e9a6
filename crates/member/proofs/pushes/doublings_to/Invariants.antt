use Rattle.std.proofs.Common.{◌≡◌, ◌-◌, ◌*◌, ◌^◌, ◌<◌, ◌≤◌}
use Rattle.member.proofs.pushes.doublings_to.Given as goal

-- so many doublings bring 32 there, and fewer don't bring it to the number
abbrev pub invariant-loop-reached : goal.invariant-loop-reached
invariant-loop-reached l = record {
  reached : l.reached ≡ 32 * 2 ^ l.doublings;
  few : l.doublings ≤ 9;
  before : 0 < l.doublings → 32 * 2 ^ (l.doublings - 1) < l.members;
}

abbrev pub decreases-loop-reached : goal.decreases-loop-reached
decreases-loop-reached l = 9 - l.doublings
