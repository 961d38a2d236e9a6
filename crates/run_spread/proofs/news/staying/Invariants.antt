use Rattle.std.proofs.Common.{◌≡◌}
use Rattle.std.specs.Prelude.{count_by}
use Rattle.std.specs.List.{range_with_len}
use Rattle.run_spread.specs.Spread.{stays}
use Rattle.run_spread.proofs.news.staying.Given as goal

-- how many of those so far do
abbrev pub invariant-loop-number : goal.invariant-loop-number
invariant-loop-number l = l.staying ≡ count_by (stays l.run.scenario.now) (range_with_len 0 l.number)
