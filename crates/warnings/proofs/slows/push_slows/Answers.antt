use Rattle.meaning.specs.Each.{made_at}
use Rattle.warnings.specs.Told.{told_of_slow}
use Rattle.meaning.proofs.More.{told_more}
use Rattle.warnings.proofs.slows.push_slows.Goals as goal

pub loop-place-preserved : goal.loop-place-preserved
loop-place-preserved c =
    let s = c.args.scenario.now in
    told_more (made_at (told_of_slow s c.args.trip) s.slows) _ _ _ c.loop-place.place c.loop-place.invariant c.in_ok-push_slow.ensures
