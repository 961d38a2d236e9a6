use Rattle.std.proofs.Common.{◌+◌, ap, sym, ◌∙◌}
use Rattle.figures.specs.Settings.{root, death_variance}
use Rattle.figures.proofs.Roots.{root_is}
use Rattle.figures.proofs.deaths.spread.Goals as goal

pub returns-clause-root : goal.returns-clause-root
returns-clause-root c =
    sym (root_is _ c.isqrt.result c.isqrt.ensures.square_le c.isqrt.ensures.next_square_gt)
    ∙ ap (λ v. root (v + 61465600)) c.variance.ensures.value
    ∙ ap (λ n. root (death_variance c.args.k c.args.q n + 61465600)) c.from.ensures
