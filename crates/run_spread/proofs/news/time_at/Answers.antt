use Rattle.std.proofs.Common.{◌≡◌, ◌+◌, ◌-◌, ◌<◌, length, ap, sym, ◌∙◌, arith}
use Rattle.std.proofs.lemmas.List.Sorted.{length_permutation, IsNonDecreasingBy-from_sort}
use Rattle.figures.specs.Settings.{at_rank}
use Rattle.figures.proofs.RanksOfTimes.{time_of_rank, no_time_of_rank}
use Rattle.run_spread.proofs.news.time_at.Goals as goal

pub returns-then-rank-times : goal.returns-then-rank-times
returns-then-rank-times c given moved =
    let past : length given < c.args.rank = omega (arith, c.if-rank-times.true, length_permutation given c.args.times.now moved) in
    sym (no_time_of_rank given c.args.rank past)

pub returns : goal.returns
returns c given moved =
    let within : c.args.rank - 1 < length c.args.times.now = omega (arith, c.if-rank-times.false, c.requires.from_1) in
    let whole : (c.args.rank - 1) + 1 ≡ c.args.rank = omega (arith, c.requires.from_1) in
    sym (time_of_rank given c.args.times.now moved (IsNonDecreasingBy-from_sort (λ time. time) c.args.times.now c.requires.order) (c.args.rank - 1) within) ∙ ap (λ place. at_rank place given) whole
