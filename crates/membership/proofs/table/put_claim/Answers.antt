use Rattle.std.proofs.Common.{◌≡◌, Some, ap, ◌∙◌, refl, arith}
use Rattle.membership.specs.Columns.{claim_weight, known_weight}
use Rattle.membership.specs.Held.{claims_in}
use Rattle.membership.proofs.Columns.{weight_few, little_weight, known_few}
use Rattle.membership.proofs.OneByte.{claims_long, claims_set, sum_set}
use Rattle.membership.proofs.table.put_claim.Goals as goal

pub overflow_add-result : goal.overflow_add-result
overflow_add-result c = omega (arith, c.requires.counted, c.requires.few, weight_few (claims_in c.args.claims.now.items), claims_long c.args.claims.now.items, little_weight (Some c.args.claim), c.weight.ensures)

pub overflow_add-result-2 : goal.overflow_add-result-2
overflow_add-result-2 c = omega (arith, c.requires.all, c.requires.few, known_few (claims_in c.args.claims.now.items), claims_long c.args.claims.now.items)

pub returns-clause-put : goal.returns-clause-put
returns-clause-put c = claims_set c.args.claims.now.items c.args.place c.held_of.result (Some c.args.claim) c.held_of.ensures

pub returns-clause-counted : goal.returns-clause-counted
returns-clause-counted c =
    let held = c.args.claims.now.items in
    let live = sum_set claim_weight held c.args.place c.held_of.result c.index.result.now (Some c.args.claim) c.requires.place c.index.ensures c.held_of.ensures in
    let old = c.weight-old.ensures ∙ ap claim_weight c.claim_of.ensures in
    omega (arith, c.requires.counted, c.weight.ensures, live, old)

pub returns-clause-all : goal.returns-clause-all
returns-clause-all c =
    let held = c.args.claims.now.items in
    let all = sum_set known_weight held c.args.place c.held_of.result c.index-2.result.now (Some c.args.claim) c.requires.place c.index-2.ensures c.held_of.ensures in
    let old = c.known_weight-was_known.ensures ∙ ap known_weight c.claim_of-2.ensures in
    let one : known_weight (Some c.args.claim) ≡ 1 = refl in
    omega (arith, c.requires.all, all, old, one)
