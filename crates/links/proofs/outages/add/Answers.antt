use Rattle.std.proofs.Common.{ap, subst, refl}
use Rattle.std.specs.Option.{IsSome}
use Rattle.links.proofs.Maps.{others_kept, others_first, always}
use Rattle.links.proofs.outages.add.Goals as goal

pub returns-in-Some-clause-others : goal.returns-in-Some-clause-others
returns-in-Some-clause-others c =
    always c.add.result _ (others_kept c.args.outages.now.entries _ c.args.groups c.add.new.self ((c.get_mut.follows.holds c.add.new.self).3 (subst IsSome c.in-Some.ensures.value refl)).0)

pub returns-in-Ok-clause-others : goal.returns-in-Ok-clause-others
returns-in-Ok-clause-others c =
    others_first c.args.outages.now.entries c.get_mut.follows.lender-at-none.entries _ c.args.groups _ (ap (λ t. t.entries) c.get_mut.follows.holds-at-none) c.in-Ok.ensures.updates.0
