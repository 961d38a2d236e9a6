use Rattle.std.proofs.Common.{◌≡◌, ◌<◌, ◌++◌, ◌∷◌, [], Some, length, refl, sym, ap, subst, ◌∙◌, arith}
use Rattle.std.specs.Prelude.{None, slice_get, slice_index_or}
use Rattle.std.proofs.lemmas.Option.{slice_get_read}
use Rattle.series.specs.Deaths.{IsStandingOf, no_answers}
use Rattle.series.proofs.Gathering.{set_each, about_none, about_it, about_other, in_some}
use Rattle.series.proofs.Dying.{stands_on, accused_few, heard_few, read}
use Rattle.series.proofs.deaths.follow_standing.Goals as goal

pub follow-requires-clause-few : goal.follow-requires-clause-few
follow-requires-clause-few c =
    let can = c.requires.can in
    let standings = c.args.standings.now.items in
    let place = c.index-in-Some-2.result in
    let is : c.args.row.now.about ≡ Some place = c.in-Some.is ∙ ap Some (sym c.index-in-Some-2.ensures) in
    let within : place < length standings = in_some _ place (length standings) is c.requires.about in
    let here : slice_get standings place ≡ Some c.index_mut-standing.result.now = slice_get_read standings (length standings) place c.index_mut-standing.result.now refl within c.index_mut-standing.ensures.value in
    omega (arith, (can.are place c.index_mut-standing.result.now here).accusers.count, accused_few place can.rows, can.few)

pub follow-requires-clause-heard : goal.follow-requires-clause-heard
follow-requires-clause-heard c =
    let can = c.requires.can in
    let standings = c.args.standings.now.items in
    let place = c.index-in-Some-2.result in
    let is : c.args.row.now.about ≡ Some place = c.in-Some.is ∙ ap Some (sym c.index-in-Some-2.ensures) in
    let within : place < length standings = in_some _ place (length standings) is c.requires.about in
    let here : slice_get standings place ≡ Some c.index_mut-standing.result.now = slice_get_read standings (length standings) place c.index_mut-standing.result.now refl within c.index_mut-standing.ensures.value in
    omega (arith, (can.are place c.index_mut-standing.result.now here).heard, heard_few place can.rows, can.few)

pub returns-in-Some-clause-follows : goal.returns-in-Some-clause-follows
returns-in-Some-clause-follows c rows numbered probes answers are =
    let row = c.args.row.now in
    let standings = c.args.standings.now.items in
    let place = c.index-in-Some-2.result in
    let is : row.about ≡ Some place = c.in-Some.is ∙ ap Some (sym c.index-in-Some-2.ensures) in
    let within : place < length standings = in_some _ place (length standings) is c.requires.about in
    let here : slice_get standings place ≡ Some c.index_mut-standing.result.now = slice_get_read standings (length standings) place c.index_mut-standing.result.now refl within c.index_mut-standing.ensures.value in
    let all = c.args.probes.now in
    let probe = read all row.member c.index-probes-index.result None c.requires.member
    (subst (λ k. c.index-probes-index.result ≡ slice_index_or all k c.index-probes-index.result) c.index.ensures c.index-probes-index.is) ∙ probes row.member c.requires.member in
    let kept = c.args.answers.now in
    let answered = read kept row.member c.index-answers-index.result no_answers c.requires.answers
    (subst (λ k. c.index-answers-index.result ≡ slice_index_or kept k c.index-answers-index.result) c.index-in-Some.ensures c.index-answers-index.is) ∙ answers row.member c.requires.answers in
    set_each (λ subject standing. IsStandingOf subject standing (rows ++ row ∷ [])) standings place c.follow.new.self
    (λ subject standing at apart. stands_on subject standing rows row (about_other subject place row is apart) (are subject standing at))
    (c.follow.ensures place rows (about_it place row is) numbered probe answered (are place c.index_mut-standing.result.now here))

pub returns-in_default-clause-follows : goal.returns-in_default-clause-follows
returns-in_default-clause-follows c rows numbered probes answers are subject standing at = stands_on subject standing rows c.args.row.now (about_none subject c.args.row.now c.in_default.is) (are subject standing at)
