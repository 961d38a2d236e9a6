use Rattle.std.proofs.Common.{◌≡◌, ap, ◌∙◌, arith}
use Rattle.figures.specs.Settings.{rank, at_rank}
use Rattle.run_spread.proofs.news.time_of_share.Goals as goal

pub returns : goal.returns
returns c given moved =
    let same : c.max.result ≡ rank c.args.percent c.args.staying = omega (arith, c.max.ensures) in
    c.time_at.ensures given moved ∙ ap (λ place. at_rank place given) same
