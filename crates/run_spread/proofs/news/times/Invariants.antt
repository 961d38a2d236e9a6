use Rattle.std.proofs.Common.{◌≡◌, filter_map}
use Rattle.std.specs.List.{range_with_len}
use Rattle.run_spread.specs.Spread.{learned, time_of_one}
use Rattle.run_spread.proofs.news.times.Given as goal

-- the times of those so far
abbrev pub invariant-loop-number : goal.invariant-loop-number
invariant-loop-number l = l.times.items ≡ filter_map (time_of_one l.run.scenario.now (learned l.moments l.from)) (range_with_len 0 l.number)
