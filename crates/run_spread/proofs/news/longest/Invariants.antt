use Rattle.std.proofs.Common.{◌≡◌, max}
use Rattle.std.specs.List.{range_with_len, fold}
use Rattle.run_spread.specs.Spread.{last_of}
use Rattle.run_spread.proofs.news.longest.Given as goal

-- the greatest of those so far
abbrev pub invariant-loop-number : goal.invariant-loop-number
invariant-loop-number l = l.longest ≡ fold (λ most member. max most (last_of l.run.scenario.now l.run.tallies.now member)) 0 (range_with_len 0 l.number)
