use Rattle.std.proofs.Common.{◌≡◌, false, refl, rules}
use Rattle.sweep.proofs.LinesOf.{no_first, no_place, no_sum}
use Rattle.sweep.proofs.standing.behind_line.Goals as goal

pub returns-in_default-clause-none : goal.returns-in_default-clause-none
returns-in_default-clause-none c = λ _. no_first c.args.key.now c.args.plan.now c.args.number c.args.text.now (c.in_default.ensures.none refl)

pub returns-in_default-2-clause-none : goal.returns-in_default-2-clause-none
returns-in_default-2-clause-none c = λ _.
    no_sum c.args.key.now c.args.plan.now c.args.number c.args.text.now c.in-Some.line.now c.in-Some.left.now c.in-Some.ensures.some
    ((rw c.in_default-2.is at c.in_ok-rest.ensures.none) refl)

pub returns-then-not-branch-clause-none : goal.returns-then-not-branch-clause-none
returns-then-not-branch-clause-none c = λ _.
    let off : c.in_ok-is_placed.field-0 ≡ false = search rules in
    no_place c.args.key.now c.args.plan.now c.args.number c.args.text.now c.in-Some.line.now c.in-Some.left.now c.in-Some.ensures.some c.in-Some-2.rest.now
    (rw c.in-Some-2.is at c.in_ok-rest.ensures.some) (c.in_ok-is_placed.ensures.none off)
