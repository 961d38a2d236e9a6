use Rattle.std.proofs.Common.{◌+◌, ◌/◌, ap, ◌∙◌}
use Rattle.std.specs.Option.{unwrap_or}
use Rattle.figures.proofs.Bins.{all_within}
use Rattle.figures.proofs.histogram.bin_width.Goals as goal

pub returns-clause-within : goal.returns-clause-within
returns-clause-within c =
    all_within c.args.times.now (c.unwrap_or.result / 20 + 1) (ap (λ n. n / 20 + 1) (c.unwrap_or.ensures ∙ ap (λ o. unwrap_or o 0) c.greatest.ensures))
