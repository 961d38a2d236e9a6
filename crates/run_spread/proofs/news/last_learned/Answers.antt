use Rattle.std.proofs.Common.{ap, ◌∙◌}
use Rattle.std.specs.Prelude.{unwrap_or}
use Rattle.run_spread.specs.Spread.{learned}
use Rattle.run_spread.proofs.Spreading.{greatest_more}
use Rattle.run_spread.proofs.news.last_learned.Goals as goal

pub loop-number-preserved : goal.loop-number-preserved
loop-number-preserved c =
    greatest_more (λ member. unwrap_or (learned c.args.moments.now c.args.from member) 0) c.loop-number.number _ _ _ c.loop-number.invariant
    (c.or_at_once.ensures ∙ ap (λ o. unwrap_or o 0) c.learned.ensures) c.max-last.ensures
