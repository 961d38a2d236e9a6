use Rattle.std.proofs.Common.{◌-◌, ◌*◌, ◌<◌, ◌≤◌}
use Rattle.day_rates.specs.Roots.{scaled, scaled_square}
use Rattle.day_rates.proofs.roots.part_of.Given as goal

-- the part lies between
abbrev pub invariant-loop-low : goal.invariant-loop-low
invariant-loop-low l =
    record {
      apart : l.low < l.high;
      small : l.high ≤ 846720000000000;
      within : scaled l.whole l.low * scaled l.whole l.low ≤ scaled_square l.whole l.rest;
      past : scaled_square l.whole l.rest < scaled l.whole l.high * scaled l.whole l.high;
    }

abbrev pub decreases-loop-low : goal.decreases-loop-low
decreases-loop-low l = l.high - l.low
