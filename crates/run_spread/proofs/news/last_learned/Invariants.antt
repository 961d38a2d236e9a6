use Rattle.std.proofs.Common.{◌≡◌, max}
use Rattle.std.specs.Prelude.{unwrap_or}
use Rattle.std.specs.List.{range_with_len, fold}
use Rattle.run_spread.specs.Spread.{learned}
use Rattle.run_spread.proofs.news.last_learned.Given as goal

-- the greatest of those so far
abbrev pub invariant-loop-number : goal.invariant-loop-number
invariant-loop-number l = l.last ≡ fold (λ most member. max most (unwrap_or (learned l.moments l.from member) 0)) 0 (range_with_len 0 l.number)
