use Rattle.std.proofs.Common.{◌<◌, All, sym, subst}
use Rattle.std.proofs.lemmas.List.Sorted.{All-permutation}
use Rattle.scenario.specs.Setup.{member_count}
use Rattle.member_timelines.specs.declared.chosen.Chosen.{Chosen}
use Rattle.member_timelines.proofs.Choosing.{choices_named}
use Rattle.member_timelines.proofs.chosen.choosing.all_chosen.Goals as goal

pub returns-clause-members : goal.returns-clause-members
returns-clause-members c =
    All-permutation (λ (lane : Chosen). lane.member < member_count c.args.run.now.scenario.now) c.in_ok-all.all.items c.in_ok-lanes.lanes.items c.in_ok-lanes.ensures.all
    (subst (λ l. All (λ (lane : Chosen). lane.member < member_count c.args.run.now.scenario.now) l) (sym c.in_ok-all.ensures) (choices_named c.args.run.now.scenario.now c.args.run.now.tallies.now))
