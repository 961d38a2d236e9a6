use Rattle.std.proofs.Common.{[]}
use Rattle.meaning.proofs.More.{told_more}
use Rattle.meaning.specs.Each.{made_at}
use Rattle.meaning_json.specs.Figures.{path_item}
use Rattle.meaning_json.proofs.figures.paths_value.Goals as goal

pub loop-place-preserved : goal.loop-place-preserved
loop-place-preserved c =
    let s = c.args.scenario.now in
    told_more (made_at (path_item s) s.paths) [] _ _ c.loop-place.place c.loop-place.invariant c.in_ok-push_path.ensures
