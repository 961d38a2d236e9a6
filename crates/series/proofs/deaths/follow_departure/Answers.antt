use Rattle.std.proofs.Common.{◌≡◌, ◌∷◌, [], ◌++◌, sym, subst}
use Rattle.std.specs.Prelude.{slice_set, slice_index_or}
use Rattle.series.specs.Deaths.{AreGoneOf}
use Rattle.series.proofs.Dying.{all_gone-push}
use Rattle.series.proofs.deaths.follow_departure.Goals as goal

pub returns-clause-follows : goal.returns-clause-follows
returns-clause-follows c rows are =
    let row = c.args.row.now in
    let gone = c.args.gone.now.items in
    subst (λ place. AreGoneOf (slice_set gone place c.gone_by.result) (rows ++ row ∷ [])) (sym c.index-place.ensures)
    (all_gone-push gone c.index.result.now c.gone_by.result rows row c.requires.member are c.gone_by.ensures
    (subst (λ place. c.index.result.now ≡ slice_index_or gone place c.index.result.now) c.index-place.ensures c.index.ensures))
