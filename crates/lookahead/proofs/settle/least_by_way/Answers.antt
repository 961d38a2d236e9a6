use Rattle.std.proofs.Common.{◌≡◌, ℕ, ◌+◌, Option, sym, subst, arith}
use Rattle.lookahead.specs.Least.{IsLeastOf, sum_of}
use Rattle.lookahead.specs.Lengths.{length_at}
use Rattle.lookahead.proofs.LeastOf.{least_more}
use Rattle.lookahead.proofs.settle.least_by_way.Goals as goal

pub loop-way-preserved : goal.loop-way-preserved
loop-way-preserved c =
    let by_way : ℕ → Option ℕ = λ way. sum_of (length_at c.args.lengths.now c.args.from way) (length_at c.args.lengths.now way c.args.to) in
    let here : by_way c.loop-way.way ≡ c.sum.result = cc in
    subst (IsLeastOf by_way (c.loop-way.way + 1)) (sym c.lesser_length-least.ensures) (least_more by_way c.loop-way.way c.loop-way.least c.sum.result c.loop-way.invariant here)

pub returns : goal.returns
returns c =
    let by_way : ℕ → Option ℕ = λ way. sum_of (length_at c.args.lengths.now c.args.from way) (length_at c.args.lengths.now way c.args.to) in
    let all : c.loop-way.way ≡ c.args.parts = omega arith in
    subst (λ k. IsLeastOf by_way k c.loop-way.least) all c.loop-way.invariant
