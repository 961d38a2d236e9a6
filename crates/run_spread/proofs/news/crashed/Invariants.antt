use Rattle.std.proofs.Common.{◌≡◌}
use Rattle.std.specs.Prelude.{count_by}
use Rattle.std.specs.List.{range_with_len}
use Rattle.series.specs.Watched.{crashes}
use Rattle.run_spread.proofs.news.crashed.Given as goal

-- how many of those so far do
abbrev pub invariant-loop-number : goal.invariant-loop-number
invariant-loop-number l = l.crashed ≡ count_by (crashes l.run.scenario.now) (range_with_len 0 l.number)
