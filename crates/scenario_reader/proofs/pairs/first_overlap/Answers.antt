use Rattle.std.proofs.Common.{◌≡◌, ◌≤◌, ◌<◌, ◌+◌, ◌||◌, ℕ, not, false, true, nat_eq, nat_lt, get_or, subst, sym, ◌∙◌, arith}
use Rattle.std.proofs.lemmas.Bool.Decides.{nat_tests}
use Rattle.scenario_reader.proofs.Sweep.{IsSwept, swept_first, swept_replaced, swept_kept, swept_all, two_at, meet, no_span}
use Rattle.scenario_reader.proofs.pairs.first_overlap.Goals as goal
use Rattle.scenario_reader.proofs.pairs.first_overlap.Goals.{then-replaces, else-replaces}

replaced : (m n p q : ℕ) → (not (nat_eq m n) || nat_lt p q) ≡ true → m ≡ n → p < q
replaced m n p q h same = grind (arith, nat_tests)

kept : (m n p q : ℕ) → (not (nat_eq m n) || nat_lt p q) ≡ false → (m ≡ n) × (q ≤ p)
kept m n p q h = (grind (arith, nat_tests), grind (arith, nat_tests))

pub loop-i-init : goal.loop-i-init
loop-i-init c = swept_first c.args.spans.now

pub loop-i-preserved : goal.loop-i-preserved
loop-i-preserved c =
    let xs = c.args.spans.now in
    let i = c.loop-i.i in
    let l = c.loop-i.longest in
    let none : meet (get_or xs l no_span) (get_or xs i no_span) ≡ false = sym c.overlap.ensures ∙ c.if-overlap.false in
    elim c.if-replaces.branch [
      | then-replaces w ↦ subst (IsSwept xs (i + 1)) (sym w.longest-is)
          (swept_replaced xs i l c.requires c.loop-i-test.true c.loop-i.invariant none (replaced _ _ (get_or xs l no_span).until (get_or xs i no_span).until (sym c.replaces.ensures ∙ w.if-replaces.true)))
      | else-replaces w ↦
          let same = kept (get_or xs i no_span).member (get_or xs l no_span).member (get_or xs l no_span).until (get_or xs i no_span).until (sym c.replaces.ensures ∙ w.if-replaces.false) in
          subst (IsSwept xs (i + 1)) (sym w.longest-is) (swept_kept xs i l c.requires c.loop-i-test.true c.loop-i.invariant none same.0 same.1)
    ]

pub returns-then-overlap : goal.returns-then-overlap
returns-then-overlap c =
    sym (two_at meet no_span c.args.spans.now c.loop-i.longest c.loop-i.i c.loop-i.invariant.before c.loop-i-test.true (sym c.overlap.ensures ∙ c.if-overlap.true))

pub returns : goal.returns
returns c = sym (swept_all c.args.spans.now c.loop-i.i c.loop-i.longest c.loop-i-test.false c.loop-i.invariant)
