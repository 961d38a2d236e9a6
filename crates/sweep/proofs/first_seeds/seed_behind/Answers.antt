use Rattle.std.proofs.Common.{ℕ, IfSome, IsNone, refl, subst}
use Rattle.decimals.specs.Numbers.{IsDecimal}
use Rattle.sweep.proofs.FirstSeed.{cell_utf8, no_number_so, number_so}
use Rattle.sweep.proofs.first_seeds.seed_behind.Goals as goal

pub returns-in_default-clause-none : goal.returns-in_default-clause-none
returns-in_default-clause-none c = λ _ seed has. c.in_default.ensures.none refl has.cell has.there

pub returns-in_default-from_utf8-clause-none : goal.returns-in_default-from_utf8-clause-none
returns-in_default-from_utf8-clause-none c = λ _ seed has.
    (rw c.in_default-from_utf8.is at c.from_utf8.ensures.cases).0 (cell_utf8 c.args.values.now c.args.text.now c.in-Some.cell.now seed c.in-Some.ensures.some has)

pub returns-clause-some : goal.returns-clause-some
returns-clause-some c =
    let read = (rw c.in-Ok.is at c.from_utf8.ensures.cases).0 in
    number_so c.args.values.now c.args.text.now c.in-Some.cell.now c.in-Some.ensures.some c.number.result (subst (λ w. IfSome c.number.result (IsDecimal w)) read c.number.ensures.some)

pub returns-clause-none : goal.returns-clause-none
returns-clause-none c =
    let read = (rw c.in-Ok.is at c.from_utf8.ensures.cases).0 in
    no_number_so c.args.values.now c.args.text.now c.in-Some.cell.now c.in-Some.ensures.some c.number.result
    (subst (λ w. IsNone c.number.result → (n : ℕ) → ¬ (IsDecimal w n)) read c.number.ensures.none)
