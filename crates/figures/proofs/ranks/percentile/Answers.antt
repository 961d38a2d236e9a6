use Rattle.std.proofs.Common.{◌≡◌, ap, ◌∙◌, arith}
use Rattle.figures.specs.Settings.{rank, at_rank}
use Rattle.figures.proofs.ranks.percentile.Goals as goal

pub returns : goal.returns
returns c given moved =
    let same : c.max.result ≡ rank c.args.percent c.args.crashes = omega (arith, c.max.ensures) in
    c.time_of_rank.ensures given moved ∙ ap (λ place. at_rank place given) same
