use Rattle.meaning.specs.Each.{made_at}
use Rattle.warnings.specs.Told.{told_of_pause}
use Rattle.meaning.proofs.More.{told_more}
use Rattle.warnings.proofs.pauses.push_pauses.Goals as goal

pub loop-place-preserved : goal.loop-place-preserved
loop-place-preserved c =
    let s = c.args.scenario.now in
    told_more (made_at (told_of_pause s) s.pauses) _ _ _ c.loop-place.place c.loop-place.invariant c.in_ok-push_pause.ensures
