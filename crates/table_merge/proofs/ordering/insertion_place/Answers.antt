use Rattle.std.proofs.Common.{◌<◌, below_more, get_or, subst, arith}
use Rattle.std.proofs.lemmas.List.{get_or_default}
use Rattle.table_merge.specs.declared.finding.Found.{Found}
use Rattle.table_merge.proofs.ordering.insertion_place.Goals as goal

pub loop-place-preserved : goal.loop-place-preserved
loop-place-preserved c k d low =
    let tables = c.args.tables.now in
    let empty : Found = record { place = 0; seeds = record { first = 0; last = 0 } } in
    let here : (get_or tables c.loop-place.place empty).seeds.first < c.args.seed = omega (arith, c.if-found-seed.false) in
    below_more (λ n. (get_or tables n d).seeds.first < c.args.seed) c.loop-place.place (λ n less. c.loop-place.invariant n d less)
    (subst (λ (f : Found). f.seeds.first < c.args.seed) (get_or_default tables c.loop-place.place empty d (omega (arith, c.loop-place-test.true))) here) k low

pub returns-then-found-seed-clause-before : goal.returns-then-found-seed-clause-before
returns-then-found-seed-clause-before c = c.loop-place.invariant
