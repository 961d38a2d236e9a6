use Rattle.std.proofs.Common.{ap, ◌∙◌}
use Rattle.run_spread.specs.Spread.{reached}
use Rattle.run_spread.proofs.news.news.Goals as goal

pub returns-clause-reached : goal.returns-clause-reached
returns-clause-reached c = c.in_ok-reached.ensures ∙ ap (λ list. reached list c.args.step) (c.as_slice.ensures.value ∙ c.in_ok-times.ensures)
