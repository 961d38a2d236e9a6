use Rattle.std.proofs.Common.{◌∙◌, sym}
use Rattle.std.proofs.lemmas.Option.{slice_get-get_or}
use Rattle.goals.specs.Wants.{is_best}
use Rattle.goals.proofs.Places.{none_before}
use Rattle.goals.proofs.choice.best_of.Goals as goal

pub returns-then-is_best : goal.returns-then-is_best
returns-then-is_best c =
    let settings = c.args.settings.now in
    let place = c.loop-place.place in
    record {
      setting = _;
      there = slice_get-get_or settings place _ c.loop-place-test.true;
      best = sym c.is_best.ensures ∙ c.if-is_best.true;
      first = λ earlier other before there. none_before (is_best c.args.wants.now settings) settings place earlier other c.loop-place.invariant before there;
    }
