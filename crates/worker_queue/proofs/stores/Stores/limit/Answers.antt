use Rattle.std.proofs.Common.{arith, ◌∙◌, sym}
use Rattle.std.proofs.lemmas.Bool.{false≢true}
use Rattle.base.specs.Order.{key_total}
use Rattle.worker_queue.proofs.Lists.{before_itself, not_before_through}
use Rattle.worker_queue.proofs.Unions.{not_in_empty}
use Rattle.worker_queue.proofs.stores.Stores.limit.Goals as goal

pub returns-then-ticks-self-clause-late : goal.returns-then-ticks-self-clause-late
returns-then-ticks-self-clause-late g c q here before =
    let early = (c.first_key-first.ensures q).0 before in
    let late = c.args.self.now.not_earlier q here in
    absurd (omega (arith, early, late, c.if-ticks-self.true, c.ticks.ensures))

pub returns-then-ticks-self-clause-least : goal.returns-then-ticks-self-clause-least
returns-then-ticks-self-clause-least g c below = absurd (before_itself c.first_key-first.result ((c.first_key-first.ensures c.first_key-first.result).1 below))

pub returns-in_default-clause-late : goal.returns-in_default-clause-late
returns-in_default-clause-late g c q here before = not_in_empty _ q c.in_default.ensures.none here

pub returns-in_default-clause-least : goal.returns-in_default-clause-least
returns-in_default-clause-least g c below = absurd (before_itself c.first_key-first.result ((c.first_key-first.ensures c.first_key-first.result).1 below))

pub returns-then-is_before-clause-below : goal.returns-then-is_before-clause-below
returns-then-is_before-clause-below g c q before =
    (c.first_key-first.ensures q).0 (key_total.trans q c.in-Some.key c.first_key-first.result before (c.is_before.ensures.0 c.if-is_before.true))

pub returns-else-is_before-clause-late : goal.returns-else-is_before-clause-late
returns-else-is_before-clause-late g c q here =
    not_before_through q c.in-Some.key c.first_key-first.result (c.in-Some.ensures.least.least q here) (λ before. false≢true (sym c.if-is_before.false ∙ c.is_before.ensures.1 before))

pub returns-else-is_before-clause-least : goal.returns-else-is_before-clause-least
returns-else-is_before-clause-least g c below = absurd (before_itself c.first_key-first.result ((c.first_key-first.ensures c.first_key-first.result).1 below))
