use Rattle.std.proofs.Common.{◌++◌, ◌∷◌, [], arith}
use Rattle.std.proofs.lemmas.Bool.{leb-true}
use Rattle.std.proofs.lemmas.Bool.{OnTrue_from}
use Rattle.links.specs.SlowTimes.{Rise}
use Rattle.links.proofs.SlowOnes.{rise_more, past_by_last}
use Rattle.links.proofs.spans.times.rises.Goals as goal

pub returns-in-Some : goal.returns-in-Some
returns-in-Some c = λ rise.
    let xs = c.args.times.now in
    let span = c.args.span in
    let last = c.in-Some.last.now in
    OnTrue_from _ (Rise (xs ++ span ∷ [])) (λ over.
    rise_more xs rise span (omega (arith, c.if-span.false)) (past_by_last xs rise last span.from c.in-Some.ensures.value (leb-true last.until span.from over)))
