use Rattle.lookahead.specs.Least.{IsLeastOf, sum_of}
use Rattle.lookahead.specs.Lengths.{length_at}
use Rattle.lookahead.proofs.settle.least_by_way.Given as goal

abbrev pub invariant-loop-way : goal.invariant-loop-way
invariant-loop-way l = IsLeastOf (λ way. sum_of (length_at l.lengths l.from way) (length_at l.lengths way l.to)) l.way l.least
