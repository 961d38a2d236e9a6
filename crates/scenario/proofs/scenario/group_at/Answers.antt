use Rattle.std.proofs.Common.{◌≡◌, ◌+◌, true, false, nat_lt, ap, sym, ◌∙◌, arith}
use Rattle.std.proofs.lemmas.Bool.Decides.{nat_tests}
use Rattle.scenario.proofs.Between.{group_found, group_passed}
use Rattle.scenario.proofs.scenario.group_at.Goals as goal

pub returns-then-before-group : goal.returns-then-before-group
returns-then-before-group c =
    let within : nat_lt c.loop-number.before c.index-groups-number.result.count ≡ true = grind (arith, nat_tests) in
    let found = group_found c.args.groups.now c.loop-number.number c.loop-number.before c.index-groups-number.result c.loop-number-test.true (sym c.index-groups-number.is) within in
    let shown = c.loop-number.invariant ∙ ap (λ n. c.loop-number.number + n) found in
    grind (arith, shown)

pub loop-number-preserved : goal.loop-number-preserved
loop-number-preserved c =
    let past : nat_lt c.loop-number.before c.index-groups-number.result.count ≡ false = grind (arith, nat_tests) in
    let passed = group_passed c.args.groups.now c.loop-number.number c.loop-number.before c.index-groups-number.result c.loop-number-test.true (sym c.index-groups-number.is) past in
    let shown = c.loop-number.invariant ∙ ap (λ n. c.loop-number.number + n) passed in
    grind (arith, shown)
