use Rattle.std.proofs.Common.{◌≡◌, ◌∙◌, List, ℕ, true, not, refl, sym, ap, subst, true≢false}
use Rattle.std.proofs.lemmas.Cmp.{nat_list_eq_equiv}
use Rattle.line_sums.proofs.Cuts.{not_cut, sum_one}
use Rattle.line_sums.specs.Sums.{checksum}
use Rattle.line_sums.proofs.summing.unsummed.Goals as goal
use lib.Pointwise.{pointwise}
use lib.Dec.{eqb}

pub returns-in_default-clause-none : goal.returns-in_default-clause-none
returns-in_default-clause-none c = λ _ line is. not_cut 32 c.args.whole.now (checksum c.args.key.now line) line (c.in_default.ensures.none refl) is

pub returns-then-ne-clause-none : goal.returns-then-ne-clause-none
returns-then-ne-clause-none c = λ _ line is.
    let word = c.in-Some.word.now in
    let sum : List ℕ = c.as_bytes.result.now in
    let one = sum_one c.args.key.now c.args.whole.now word c.in-Some.line.now line c.in-Some.ensures.some is in
    let same : word ≡ sum = one.0 ∙ sym c.in_ok-sum.ensures ∙ sym c.as_bytes.ensures.value in
    let alike : pointwise eqb word sum ≡ true = subst (λ l. pointwise eqb word l ≡ true) same (nat_list_eq_equiv.refl word) in
    true≢false (sym c.if-ne.true ∙ c.ne.ensures ∙ ap not alike)
