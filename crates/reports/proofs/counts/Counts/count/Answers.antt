use Rattle.std.proofs.Common.{◌∷◌, [], arith, length-append}
use Rattle.reports.proofs.Counting.{told-push, lost-push, health-push}
use Rattle.reports.proofs.counts.Counts.count.Goals as goal

pub returns : goal.returns
returns c rows are =
    let row = c.args.row.now in
    record {
      all = omega (arith, are.all, length-append rows (row ∷ []));
      told = told-push _ _ rows row _ c.raise.ensures.long c.count_place-place.ensures.place c.raise.ensures.raised are.told;
      lost = lost-push _ _ rows row _ c.raise-2.ensures.long c.count_place-place.ensures.place c.raise-2.ensures.raised are.lost;
      health = health-push rows row _ _ c.worse-self.ensures are.health;
    }
