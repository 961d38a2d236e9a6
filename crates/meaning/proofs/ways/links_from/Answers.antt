use Rattle.std.proofs.Common.{refl}
use Rattle.scenario.specs.Setup.{leads}
use Rattle.meaning.proofs.LinksBy.{no_paths, path_more}
use Rattle.meaning.proofs.ways.links_from.Goals as goal

pub loop-path-init : goal.loop-path-init
loop-path-init c = no_paths c.args.count c.args.others _ c.in_ok-links.ensures

pub loop-path-preserved : goal.loop-path-preserved
loop-path-preserved c =
    path_more c.args.others (λ h. leads c.args.group h) c.args.paths.now c.loop-path.path-index _ c.loop-path-test.true c.loop-path.links.items c.loop-path.invariant
    _ _ _ (λ h. refl) c.put_if.ensures
