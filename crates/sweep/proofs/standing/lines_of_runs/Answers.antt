use Rattle.std.proofs.Common.{◌≡◌, arith, inr, refl, subst}
use Rattle.sweep.specs.Sums.{BeginsWithLines}
use Rattle.sweep.proofs.LinesOf.{none_yet, one_more}
use Rattle.sweep.proofs.standing.lines_of_runs.Goals as goal

pub loop-count-init : goal.loop-count-init
loop-count-init c = none_yet c.args.key.now c.args.plan.now c.args.first c.args.text.now

pub loop-count-preserved : goal.loop-count-preserved
loop-count-preserved c =
    one_more c.args.key.now c.args.plan.now c.args.first c.loop-count.count c.args.text.now _ _ c.loop-count.invariant (rw c.in-Some.is at c.in_ok-rest.ensures.some)

pub returns-in_default-clause-no_more : goal.returns-in_default-clause-no_more
returns-in_default-clause-no_more c = inr ((rw c.in_default.is at c.in_ok-rest.ensures.none) refl)

pub returns-clause-begins : goal.returns-clause-begins
returns-clause-begins c =
    let all : c.loop-count.count ≡ c.args.most = omega (arith, c.loop-count-test.false, c.loop-count.auto.count-end) in
    subst (BeginsWithLines c.args.key.now c.args.plan.now c.args.first c.args.text.now c.loop-count.left.now) all c.loop-count.invariant
