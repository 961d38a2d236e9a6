use Rattle.std.proofs.Common.{◌≡◌, ◌≤◌, take}
use Rattle.std.specs.Prelude.{count_by}
use Rattle.reports.specs.Failures.{is_healthy_maker}
use Rattle.reports.proofs.false_positives.count_healthy.Given as goal

-- the healthy ones so far are counted
abbrev pub invariant-loop-claim : goal.invariant-loop-claim
invariant-loop-claim l =
    record {
      counted : l.count ≡ count_by (is_healthy_maker l.scenario) (take l.claim-index l.claims);
      few : l.count ≤ l.claim-index;
    }
