use Rattle.std.proofs.Common.{◌≡◌, ◌≤◌, take}
use Rattle.std.specs.Prelude.{count_by}
use Rattle.run_settings.specs.Nearest.{differs}
use Rattle.run_settings.proofs.nearest.count_differing.Given as goal

-- those so far are counted
abbrev pub invariant-loop-rule : goal.invariant-loop-rule
invariant-loop-rule l =
    record {
      counted : l.count ≡ count_by (differs l.scenario l.preset l.section) (take l.rule-index l.rules);
      few : l.count ≤ l.rule-index;
    }
