use Rattle.std.proofs.Common.{◌≡◌, below_more, subst, arith}
use Rattle.scenario.specs.Setup.{member_count}
use Rattle.windows.specs.Admitting.{opened_below}
use Rattle.turns.specs.Parts.{StandFor}
use Rattle.turns.proofs.opening.admit_all.Goals as goal

pub loop-number-init : goal.loop-number-init
loop-number-init g c = record { opened = c.requires.empty; below = λ m low. absurd (omega arith) }

pub admit_one-requires-clause-so_far : goal.admit_one-requires-clause-so_far
admit_one-requires-clause-so_far g c = c.loop-number.invariant.opened

pub loop-number-preserved : goal.loop-number-preserved
loop-number-preserved g c = record { opened = c.in_ok-admit_one.ensures.opened; below = below_more _ _ c.loop-number.invariant.below c.admit_one.ensures.below }

pub returns-clause-opened : goal.returns-clause-opened
returns-clause-opened g c =
    let all : c.loop-number.number ≡ member_count c.args.scenario.now = omega (arith, c.members-number-end.ensures.count) in
    subst (λ n. StandFor g.Q.EventQueue.set c.args.division.now c.loop-number.parts.items (opened_below c.args.scenario.now n)) all c.loop-number.invariant.opened

pub returns-clause-below : goal.returns-clause-below
returns-clause-below g c = λ m low.
    let all : c.loop-number.number ≡ member_count c.args.scenario.now = omega (arith, c.members-number-end.ensures.count) in
    c.loop-number.invariant.below m (omega arith)
