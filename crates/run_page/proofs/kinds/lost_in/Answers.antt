use Rattle.std.proofs.Common.{refl, ◌∙◌}
use Rattle.series.specs.Series.{kind_place}
use Rattle.run_page.proofs.Stacking.{where_counted}
use Rattle.run_page.proofs.kinds.lost_in.Goals as goal

pub returns : goal.returns
returns c = where_counted c.args.kind _ _ (kind_place c.args.kind) refl c.requires.counted (λ place is. c.lost.ensures.of_kind place is ∙ c.requires.told.gathered.lost c.args.kind place c.args.span is c.requires.few)
