use Rattle.std.proofs.Common.{[], ◌∷◌, arith}
use Rattle.partitioning.specs.Parts.{Divides}
use Rattle.partitioning.proofs.Dividing.{turns_divide}
use Rattle.partitioning.proofs.Paying.{best_of_all, divides_still, none_yet, one_more}
use Rattle.partitioning.proofs.choosing.parts_that_pay.Goals as goal

pub longer-requires-3 : goal.longer-requires-3
longer-requires-3 c = record { divides = c.in_ok-turns.ensures.divides.one_each }

pub returns-clause-divides : goal.returns-clause-divides
returns-clause-divides c =
    let s = c.args.cluster.scenario.now in
    let hands = c.args.hands in
    let alone = turns_divide s c.in_ok-parts.parts 1 c.in_ok-parts.ensures (omega arith) in
    let one : Divides s hands c.in_ok-parts.parts = record { one_each = alone.one_each; below = alone.below; few = omega (arith, alone.few, c.requires.few.0) } in
    let two = divides_still s hands _ _ _ _ _ c.in_ok-of_given.ensures one c.in_ok-given.ensures.divides in
    let three = divides_still s hands _ _ _ _ _ c.in_ok-of_near.ensures two c.in_ok-near.ensures.divides in
    divides_still s hands _ _ _ _ _ c.in_ok-chosen.ensures three c.in_ok-turns.ensures.divides

pub returns-clause-pays : goal.returns-clause-pays
returns-clause-pays c =
    let s = c.args.cluster.scenario.now in
    let long = c.long_round-ticks.result in
    let given = c.in_ok-given.given in
    let near = c.in_ok-near.near in
    let turns = c.in_ok-turns.turns in
    let chosen = c.in_ok-chosen.chosen in
    let one = none_yet s long c.in_ok-parts.parts c.in_ok-parts.ensures in
    let two = one_more s long [] _ given c.in_ok-of_given.of_given.parts _ c.in_ok-of_given.of_given.ticks c.in_ok-of_given.ensures one in
    let three = one_more s long (given ∷ []) _ near c.in_ok-of_near.of_near.parts _ c.in_ok-of_near.of_near.ticks c.in_ok-of_near.ensures two in
    let all = one_more s long (near ∷ given ∷ []) _ turns chosen.parts _ chosen.ticks c.in_ok-chosen.ensures three in
    record {
      long = long;
      enough = c.long_round-ticks.ensures;
      given = given;
      of_asked = c.in_ok-given.ensures.folded;
      sites = c.in_ok-sites.sites;
      of_cluster = c.in_ok-sites.ensures;
      near = near;
      of_sites = c.in_ok-near.ensures.folded;
      turns = turns;
      in_order = c.in_ok-turns.ensures.in_order;
      best = best_of_all s long (turns ∷ near ∷ given ∷ []) chosen.parts chosen.ticks all;
    }
