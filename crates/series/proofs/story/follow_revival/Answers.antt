use Rattle.std.proofs.Common.{◌+◌, ◌==◌, ◌&&◌, cond, ap, sym, ◌∙◌}
use Rattle.series.specs.Grid.{count_at}
use Rattle.series.proofs.story.follow_revival.Goals as goal

pub returns-then-is_back : goal.returns-then-is_back
returns-then-is_back c k low = c.raise.ensures.raised 0 k low ∙ ap (λ t. count_at c.args.revived.now 0 k + cond (t && k == c.args.span) 1 0) (sym c.if-is_back.true)
