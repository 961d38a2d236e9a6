use Rattle.meaning.proofs.More.{told_more}
use Rattle.meaning.specs.Each.{made_at}
use Rattle.meaning_text.specs.Lines.{path_line}
use Rattle.meaning_text.proofs.paths.push_paths.Goals as goal

pub loop-place-preserved : goal.loop-place-preserved
loop-place-preserved c =
    let s = c.args.scenario.now in
    told_more (made_at (path_line s) s.paths) _ _ _ c.loop-place.place c.loop-place.invariant c.in_ok-push_path_at.ensures
