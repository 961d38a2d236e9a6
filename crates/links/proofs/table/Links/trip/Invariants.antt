use Rattle.std.proofs.Common.{◌≡◌, ◌<◌, ◌≤◌, ◌-◌, ◌*◌, ◌^◌}
use Rattle.streams.specs.Draw.{words_of}
use Rattle.scenario.specs.Setup.{Setup, member_count}
use Rattle.links.specs.Arrival.{AreLinksOf}
use Rattle.links.specs.Trips.{tried_of}
use Rattle.links.proofs.table.Links.trip.Given as goal

-- the tries that are left lead to the whole trip
abbrev pub invariant-loop-left : goal.invariant-loop-left
invariant-loop-left l = record {
  few : l.left ≤ 8;
  short : l.waited ≤ 2 ^ 24 * 255;
  waited : l.waited ≡ l.wait * (2 ^ (8 - l.left) - 1);
  drawn : (s : Setup) → AreLinksOf l.self s → l.from < member_count s → l.to < member_count s
      → tried_of s l.from l.to l.now l.wait (8 - l.left) l.left (words_of l.stream) ≡ tried_of s l.from l.to l.now l.wait 0 8 (words_of l.fn.stream);
}

abbrev pub decreases-loop-left : goal.decreases-loop-left
decreases-loop-left l = l.left
