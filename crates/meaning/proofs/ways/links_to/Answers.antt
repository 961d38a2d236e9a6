use Rattle.std.proofs.Common.{◌≡◌, ℕ, Bool, true, false, ◌&&◌, nat_eq, get_or, refl}
use Rattle.scenario.specs.Setup.{leads}
use Rattle.scenario.specs.declared.settings.Path.{Path}
use Rattle.meaning.proofs.LinksBy.{no_paths, path_more}
use Rattle.meaning.proofs.ways.links_to.Goals as goal

turned : (a b : Bool) → (a && b) ≡ (b && a)
turned true true = refl
turned true false = refl
turned false true = refl
turned false false = refl

to_first : (p : Path) (from to : ℕ) → leads from to p ≡ (nat_eq p.to to && nat_eq p.from from)
to_first p from to = turned (nat_eq p.from from) (nat_eq p.to to)

pub loop-path-init : goal.loop-path-init
loop-path-init c = no_paths c.args.count c.args.others _ c.in_ok-links.ensures

pub loop-path-preserved : goal.loop-path-preserved
loop-path-preserved c =
    path_more c.args.others (λ h. leads h c.args.group) c.args.paths.now c.loop-path.path-index _ c.loop-path-test.true c.loop-path.links.items c.loop-path.invariant
    _ _ _ (λ h. to_first (get_or c.args.paths.now c.loop-path.path-index _) h c.args.group) c.put_if.ensures
