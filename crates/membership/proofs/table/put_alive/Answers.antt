use Rattle.std.proofs.Common.{◌≡◌, Some, sum_by, sym, ap, ◌∙◌, refl, arith}
use Rattle.incarnation.specs.declared.Claim.TheVariants.{Alive}
use Rattle.membership.specs.declared.held.Held.TheVariants as held
use Rattle.membership.specs.Columns.{claim_weight, known_weight}
use Rattle.membership.specs.Held.{claims_in}
use Rattle.membership.proofs.Columns.{all_live, known_few}
use Rattle.membership.proofs.OneByte.{claims_long, claim_read, claims_set, sum_set}
use Rattle.membership.proofs.table.put_alive.Goals as goal

pub overflow_add-result : goal.overflow_add-result
overflow_add-result c = omega (arith, c.requires.all, c.requires.few, known_few (claims_in c.args.claims.now.items), claims_long c.args.claims.now.items)

pub returns-clause-counted : goal.returns-clause-counted
returns-clause-counted c =
    let column = c.args.claims.now.items in
    let place = c.args.place in
    let even : sum_by claim_weight (claims_in column) ≡ sum_by known_weight (claims_in column) = omega (arith, c.requires.counted, c.requires.all) in
    let level = ap claim_weight (claim_read column place c.index.result.now c.requires.place c.index.ensures) ∙ all_live (claims_in column) place even
    ∙ ap known_weight (sym (claim_read column place c.index.result.now c.requires.place c.index.ensures)) in
    let live = sum_set claim_weight column place held.Alive c.index.result.now (Some Alive) c.requires.place c.index.ensures refl in
    let one : claim_weight (Some Alive) ≡ 1 = refl in
    let was = c.known_weight-was_known.ensures ∙ ap known_weight c.claim_of.ensures in
    omega (arith, c.requires.counted, level, live, one, was)

pub returns-clause-put : goal.returns-clause-put
returns-clause-put c = claims_set c.args.claims.now.items c.args.place held.Alive (Some Alive) refl

pub returns-clause-all : goal.returns-clause-all
returns-clause-all c =
    let all = sum_set known_weight c.args.claims.now.items c.args.place held.Alive c.index.result.now (Some Alive) c.requires.place c.index.ensures refl in
    let one : known_weight (Some Alive) ≡ 1 = refl in
    let was = c.known_weight-was_known.ensures ∙ ap known_weight c.claim_of.ensures in
    omega (arith, c.requires.all, all, one, was)
