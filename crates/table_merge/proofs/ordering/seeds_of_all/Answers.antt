use Rattle.std.proofs.Common.{◌≡◌, ◌∙◌, ◌+◌, ◌-◌, ap, get_or, sym, arith}
use Rattle.std.proofs.lemmas.List.{get_or_default}
use Rattle.table_merge.specs.declared.finding.Found.{Found}
use Rattle.table_merge.proofs.Order.{apart_pair, follows_more, gap_there}
use Rattle.table_merge.proofs.ordering.seeds_of_all.Goals as goal

pub loop-place-preserved : goal.loop-place-preserved
loop-place-preserved c =
    let tables = c.args.tables.now in
    let place = c.loop-place.place in
    let empty : Found = record { place = 0; seeds = record { first = 0; last = 0 } } in
    let same : place + 1 - 1 ≡ place = omega arith in
    record {
      at = λ d. get_or_default tables place empty d (omega (arith, c.loop-place-test.true)) ∙ ap (λ n. get_or tables n d) (sym same);
      turn = follows_more tables _ place c.loop-place.last empty c.requires.apart (omega (arith, c.loop-place.auto.place)) (omega (arith, c.loop-place-test.true)) (c.loop-place.invariant.at empty)
          c.loop-place.invariant.turn (omega (arith, c.if-next-last-gt1.false));
    }

pub returns-then-next-last-gt1-clause-refused : goal.returns-then-next-last-gt1-clause-refused
returns-then-next-last-gt1-clause-refused c =
    let empty : Found = record { place = 0; seeds = record { first = 0; last = 0 } } in
    gap_there c.args.tables.now c.loop-place.place c.loop-place.last empty c.requires.apart (omega (arith, c.loop-place.auto.place)) (omega (arith, c.loop-place-test.true)) (c.loop-place.invariant.at empty)
    (omega (arith, c.if-next-last-gt1.true))

pub overflow_sub-next : goal.overflow_sub-next
overflow_sub-next c =
    let tables = c.args.tables.now in
    let empty : Found = record { place = 0; seeds = record { first = 0; last = 0 } } in
    let same : c.loop-place.last.seeds.last ≡ (get_or tables (c.loop-place.place - 1) empty).seeds.last = ap (λ (f : Found). f.seeds.last) (c.loop-place.invariant.at empty) in
    let before = apart_pair 0 tables (c.loop-place.place - 1) c.loop-place.place empty c.requires.apart (omega (arith, c.loop-place.auto.place)) (omega (arith, c.loop-place-test.true)) in
    omega (arith, same, before)
