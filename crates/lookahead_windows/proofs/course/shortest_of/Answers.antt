use Rattle.std.proofs.Common.{◌≡◌, ◌+◌, ◌++◌, ◌∷◌, [], ◌↔◌, ◌≤◌, take, get_or, subst, arith}
use Rattle.std.specs.List.{AllByRecursion}
use Rattle.std.proofs.lemmas.List.{take_more, take_all}
use Rattle.lookahead_windows.proofs.Ways.{shortest_more}
use Rattle.lookahead_windows.proofs.course.shortest_of.Goals as goal

pub loop-way-init : goal.loop-way-init
loop-way-init c = record { least = λ t few. (λ all. omega (arith, few), λ low. tt) }

pub loop-way-preserved : goal.loop-way-preserved
loop-way-preserved c =
    let ways = c.args.ways.now in
    let i = c.loop-way.way-index in
    let more : take (i + 1) ways ≡ take i ways ++ get_or ways i 0 ∷ [] = take_more ways i 0 (omega arith) in
    record { least = shortest_more (take i ways) (take (i + 1) ways) (get_or ways i 0) c.loop-way.shortest c.min-shortest.result more c.min-shortest.ensures c.loop-way.invariant.least }

pub returns : goal.returns
returns c = λ t few. subst (λ l. AllByRecursion (λ way. t ≤ way) l ↔ (t ≤ c.loop-way.shortest)) (take_all c.loop-way.way-index c.args.ways.now (omega arith)) (c.loop-way.invariant.least t few)
