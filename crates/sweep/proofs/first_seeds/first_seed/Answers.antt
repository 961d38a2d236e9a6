use Rattle.std.proofs.Common.{refl, subst}
use Rattle.sweep.specs.Sums.{HasLineOf}
use Rattle.sweep.proofs.FirstSeed.{no_line, some_of_all}
use Rattle.sweep.proofs.first_seeds.first_seed.Goals as goal

pub behind_line-requires-clause-within : goal.behind_line-requires-clause-within
behind_line-requires-clause-within c = some_of_all c.args.plan.now c.requires.asked

pub returns-in_default-clause-none : goal.returns-in_default-clause-none
returns-in_default-clause-none c = λ _. (rw c.in_default.is at c.in_ok-seed.ensures.none) refl _

pub returns-in-Some-2-clause-some : goal.returns-in-Some-2-clause-some
returns-in-Some-2-clause-some c =
    subst (λ k. HasLineOf k c.args.plan.now 0 c.args.text.now) c.in_ok-key.ensures (_, rw c.in-Some-2.is at c.in_ok-_left.ensures.some)

pub returns-in-None-clause-none : goal.returns-in-None-clause-none
returns-in-None-clause-none c = λ _.
    no_line c.args.columns c.args.mark.now c.args.plan.now c.args.text.now c.in-Some.seed (rw c.in-Some.is at c.in_ok-seed.ensures.some)
    (subst (λ k. ¬ (HasLineOf k c.args.plan.now 0 c.args.text.now)) c.in_ok-key.ensures ((rw c.in-None.is at c.in_ok-_left.ensures.none) refl))
