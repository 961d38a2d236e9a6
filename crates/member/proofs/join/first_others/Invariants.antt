use Rattle.std.proofs.Common.{◌≡◌, ℕ, ◌<◌, ◌≤◌, nat_eq, filter}
use Rattle.std.specs.List.{range_with_len}
use Rattle.scenario.specs.Setup.{start_of}
use Rattle.member.specs.Step.{is_first_other}
use Rattle.member.proofs.join.first_others.Given as goal

abbrev pub invariant-loop-number : goal.invariant-loop-number
invariant-loop-number l = record {
  others : l.others.items ≡ filter (is_first_other l.scenario l.oneself) (range_with_len 0 l.number);
  known : (k : ℕ) → l.number ≤ k → k < l.run.end → l.run.is_first ≡ nat_eq (start_of l.scenario k) 0;
}
