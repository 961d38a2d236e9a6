use Rattle.std.proofs.Common.{◌≡◌, map}
use Rattle.std.specs.List.{range_with_len}
use Rattle.run_spread.specs.Spread.{come_by}
use Rattle.run_spread.proofs.news.reached.Given as goal

-- the counts of the steps so far
abbrev pub invariant-loop-place : goal.invariant-loop-place
invariant-loop-place l = l.counts.items ≡ map (come_by l.times l.step) (range_with_len 0 l.place)
