use Rattle.std.proofs.Common.{◌≡◌, ◌<◌, ◌++◌, ◌∷◌, [], Some, length, refl, sym, ap, ◌∙◌}
use Rattle.std.specs.Prelude.{slice_get}
use Rattle.std.proofs.lemmas.Option.{slice_get_read}
use Rattle.series.specs.Stories.{IsStoryOf}
use Rattle.series.proofs.Gathering.{untold, no_crash, no_restart, neither, other, set_each, about_none, about_it, about_other, whatever, in_some}
use Rattle.series.proofs.series.follow_subject.Goals as goal

pub returns-in_default-clause-ok : goal.returns-in_default-clause-ok
returns-in_default-clause-ok c s rows next are subject story is =
    untold s subject story rows c.args.row.now (about_none subject c.args.row.now c.in_default.is) (no_crash subject c.args.row.now (neither _ _ (sym c.is_turn.ensures ∙ c.if-is_turn.false))) (no_restart subject c.args.row.now (other _ _ (sym c.is_turn.ensures ∙ c.if-is_turn.false))) (are subject story is)

pub returns-in_err-make_room-clause-err : goal.returns-in_err-make_room-clause-err
returns-in_err-make_room-clause-err c =
    let stories = c.args.stories.now.items in
    let place = c.index.result in
    let is : c.args.row.now.about ≡ Some place = c.in-Some.is ∙ ap Some (sym c.index.ensures) in
    let within : place < length stories = in_some _ place (length stories) is c.requires.can.about in
    let here : slice_get stories place ≡ Some c.index_mut-story.result.now = slice_get_read stories (length stories) place c.index_mut-story.result.now refl within c.index_mut-story.ensures.value in
    whatever c.from_residual.result (λ s rows are. set_each (λ subject story. IsStoryOf s subject story rows) stories place c.make_room.new.self
    (λ subject story at apart. are subject story at) (c.make_room.ensures.same s place rows (are place c.index_mut-story.result.now here)))

pub follow-requires-clause-can : goal.follow-requires-clause-can
follow-requires-clause-can c =
    let can = c.requires.can in
    let stories = c.args.stories.now.items in
    let place = c.index.result in
    let is : c.args.row.now.about ≡ Some place = c.in-Some.is ∙ ap Some (sym c.index.ensures) in
    let within : place < length stories = in_some _ place (length stories) is c.requires.can.about in
    let here : slice_get stories place ≡ Some c.index_mut-story.result.now = slice_get_read stories (length stories) place c.index_mut-story.result.now refl within c.index_mut-story.ensures.value in
    record {
      setup = can.setup;
      subject = place;
      rows = can.rows;
      about = about_it place c.args.row.now is;
      told = c.make_room.ensures.same can.setup place can.rows (can.told place c.index_mut-story.result.now here);
      few = can.few;
    }

pub returns-clause-ok : goal.returns-clause-ok
returns-clause-ok c s rows next are =
    let row = c.args.row.now in
    let stories = c.args.stories.now.items in
    let place = c.index.result in
    let is : row.about ≡ Some place = c.in-Some.is ∙ ap Some (sym c.index.ensures) in
    let within : place < length stories = in_some _ place (length stories) is c.requires.can.about in
    let here : slice_get stories place ≡ Some c.index_mut-story.result.now = slice_get_read stories (length stories) place c.index_mut-story.result.now refl within c.index_mut-story.ensures.value in
    set_each (λ subject story. IsStoryOf s subject story (rows ++ row ∷ [])) stories place c.follow.new.self
    (λ subject story at apart. untold s subject story rows row (about_other subject place row is apart) (no_crash subject row (neither _ _ (sym c.is_turn.ensures ∙ c.if-is_turn.false))) (no_restart subject row (other _ _ (sym c.is_turn.ensures ∙ c.if-is_turn.false))) (are subject story at))
    (c.follow.ensures s place rows (about_it place row is) (no_crash place row (neither _ _ (sym c.is_turn.ensures ∙ c.if-is_turn.false))) (no_restart place row (other _ _ (sym c.is_turn.ensures ∙ c.if-is_turn.false))) next (c.make_room.ensures.same s place rows (are place c.index_mut-story.result.now here)))

pub follow_turn-requires-clause-turn : goal.follow_turn-requires-clause-turn
follow_turn-requires-clause-turn c = sym c.is_turn.ensures ∙ c.if-is_turn.true

pub returns-then-is_turn-clause-ok : goal.returns-then-is_turn-clause-ok
returns-then-is_turn-clause-ok c s rows next are = c.follow_turn.ensures.told s rows are
