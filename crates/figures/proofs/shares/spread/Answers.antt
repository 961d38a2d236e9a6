use Rattle.std.proofs.Common.{◌+◌, ◌*◌, ◌/◌, ◌-◌, ap, sym, ◌∙◌}
use Rattle.figures.specs.Settings.{root}
use Rattle.figures.proofs.Roots.{root_is}
use Rattle.figures.proofs.shares.spread.Goals as goal

pub returns-clause-root : goal.returns-clause-root
returns-clause-root c =
    sym (root_is _ c.isqrt.result c.isqrt.ensures.square_le c.isqrt.ensures.next_square_gt)
    ∙ ap (λ k. root (64000000 * (k * c.from-2.result) / c.from-3.result + 61465600)) c.from.ensures
    ∙ ap (λ others. root (64000000 * (c.args.k * others) / c.from-3.result + 61465600)) c.from-2.ensures
    ∙ ap (λ n. root (64000000 * (c.args.k * (c.args.n - c.args.k)) / n + 61465600)) c.from-3.ensures
