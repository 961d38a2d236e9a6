use Rattle.std.proofs.Common.{◌≡◌, ℕ, ◌≤◌, Bool, true, false, List, get_or, sym, subst, arith}
use Rattle.lookahead.specs.Between.{part_number}
use Rattle.lookahead.specs.Direct.{HasTwinBefore}
use Rattle.lookahead.specs.Walks.{AreLengthsOfWalks}
use Rattle.lookahead.proofs.Linking.{between, direct_between, direct_walks}
use Rattle.lookahead.proofs.Shortest.{is_least_walk}
use Rattle.lookahead.proofs.making.horizons.Goals as goal

pub returns-clause-walks : goal.returns-clause-walks
returns-clause-walks c =
    let s = c.args.cluster.scenario.now in
    let division = part_number c.args.division.now in
    let parts = c.args.division.now.parts in
    let same : c.parts-parts.result ≡ parts = c.parts-parts.ensures.value in
    let few : parts ≤ 64 = omega (arith, same, c.parts-parts.ensures.at_most_64) in
    let direct = c.in_ok-lengths.lengths in
    let twins = subst (λ (marks : List Bool). (m : ℕ) → get_or marks m false ≡ true → HasTwinBefore s c.args.division.now m) (sym c.as_slice.ensures.value) c.in_ok-twins.ensures.twins in
    let are = c.in_ok-lengths.ensures s (record { serve = c.args.cluster.fits; one_each = c.requires; twins = twins }) in
    let lies = between parts few s division direct are in
    let at_first = subst (λ n. AreLengthsOfWalks n s division lies direct) (sym same) (direct_walks parts few s division direct are) in
    let walks = c.settle.ensures.walks s division lies at_first in (
      lies,
      direct_between parts few s division direct are,
      record { least = λ from to here there. is_least_walk c.parts-parts.result s division lies c.settle.new.lengths walks c.settle.ensures.settled to (omega arith) from (omega arith) },
    )
