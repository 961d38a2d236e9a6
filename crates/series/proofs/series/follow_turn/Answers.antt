use Rattle.std.proofs.Common.{◌≡◌, ◌<◌, ◌++◌, ◌∷◌, [], Some, length, refl, sym, subst, ◌∙◌}
use Rattle.std.specs.Prelude.{slice_get}
use Rattle.std.proofs.lemmas.Option.{slice_get_read}
use Rattle.series.specs.Stories.{IsStoryOf}
use Rattle.series.proofs.Gathering.{untold_crash, told_crash, untold_restart, told_restart, second, set_each}
use Rattle.series.proofs.series.follow_turn.Goals as goal

pub returns-then-is_crash-clause-told : goal.returns-then-is_crash-clause-told
returns-then-is_crash-clause-told c s rows are =
    let row = c.args.row.now in
    let stories = c.args.stories.now.items in
    let place = c.index.result in
    let is : row.member ≡ place = sym c.index.ensures in
    let within : place < length stories = subst (λ m. m < length stories) is c.requires.can.member in
    let here : slice_get stories place ≡ Some c.index_mut.result.now = slice_get_read stories (length stories) place c.index_mut.result.now refl within c.index_mut.ensures.value in
    set_each (λ subject story. IsStoryOf s subject story (rows ++ row ∷ [])) stories place c.crash.new.self
    (λ subject story at apart. untold_crash s subject story rows row (sym c.is_crash.ensures ∙ c.if-is_crash.true) (λ same. apart (same ∙ is)) (are subject story at))
    (subst (λ story. IsStoryOf s place story (rows ++ row ∷ [])) (sym c.crash.ensures)
    (told_crash s place c.index_mut.result.now rows row (sym c.is_crash.ensures ∙ c.if-is_crash.true) is (are place c.index_mut.result.now here)))

pub returns-clause-told : goal.returns-clause-told
returns-clause-told c s rows are =
    let row = c.args.row.now in
    let stories = c.args.stories.now.items in
    let place = c.index-2.result in
    let is : row.member ≡ place = sym c.index-2.ensures in
    let within : place < length stories = subst (λ m. m < length stories) is c.requires.can.member in
    let here : slice_get stories place ≡ Some c.index_mut-2.result.now = slice_get_read stories (length stories) place c.index_mut-2.result.now refl within c.index_mut-2.ensures.value in
    let restart = second _ _ c.requires.turn (sym c.is_crash.ensures ∙ c.if-is_crash.false) in
    set_each (λ subject story. IsStoryOf s subject story (rows ++ row ∷ [])) stories place c.restart.new.self
    (λ subject story at apart. untold_restart s subject story rows row restart (λ same. apart (same ∙ is)) (are subject story at))
    (subst (λ story. IsStoryOf s place story (rows ++ row ∷ [])) (sym c.restart.ensures)
    (told_restart s place c.index_mut-2.result.now rows row restart is (are place c.index_mut-2.result.now here)))
