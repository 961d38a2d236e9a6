use Rattle.std.proofs.Common.{◌≡◌, ◌∷◌, [], ◌++◌, sym, subst}
use Rattle.std.specs.Prelude.{slice_set, slice_index_or}
use Rattle.series.specs.Deaths.{AreProbesOf}
use Rattle.series.proofs.Dying.{probes-push}
use Rattle.series.proofs.deaths.follow_probe.Goals as goal

pub returns-clause-follows : goal.returns-clause-follows
returns-clause-follows c rows numbered are =
    let row = c.args.row.now in
    let probes = c.args.probes.now.items in
    subst (λ place. AreProbesOf (slice_set probes place c.begun.result) (rows ++ row ∷ [])) (sym c.index-place.ensures)
    (probes-push probes c.args.number c.index.result.now c.begun.result rows row numbered c.requires.member are c.begun.ensures
    (subst (λ place. c.index.result.now ≡ slice_index_or probes place c.index.result.now) c.index-place.ensures c.index.ensures))
