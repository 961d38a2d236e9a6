use Rattle.std.proofs.Common.{◌≡◌, ℕ, Option, true, false, sym, ap, ◌∙◌, arith}
use Rattle.lookahead.specs.Least.{sum_of, is_less}
use Rattle.lookahead.specs.Lengths.{length_at}
use Rattle.lookahead.proofs.LeastOf.{none_less, weighs_less}
use Rattle.lookahead.proofs.Shortening.{shortened, way_fits}
use Rattle.lookahead.proofs.settle.shorten.Goals as goal

pub returns-then-not-is_less-clause-settled : goal.returns-then-not-is_less-clause-settled
returns-then-not-is_less-clause-settled c =
    let lengths = c.args.lengths.now in
    let by_way : ℕ → Option ℕ = λ way. sum_of (length_at lengths c.args.from way) (length_at lengths way c.args.to) in
    let isnt : is_less c.least_by_way-way.result (length_at lengths c.args.from c.args.to) ≡ false = ap (is_less c.least_by_way-way.result) (sym c.at.ensures) ∙ sym c.is_less.ensures ∙ c.if-not-is_less.true in
    λ way n below is. none_less by_way c.args.parts c.least_by_way-way.result (length_at lengths c.args.from c.args.to) c.least_by_way-way.ensures isnt way n below is

pub returns-clause-walks : goal.returns-clause-walks
returns-clause-walks c =
    let lengths = c.args.lengths.now in
    let less : is_less c.least_by_way-way.result (length_at lengths c.args.from c.args.to) ≡ true = ap (is_less c.least_by_way-way.result) (sym c.at.ensures) ∙ sym c.is_less.ensures ∙ c.if-not-is_less.false in
    λ s division between are.
    shortened c.args.parts s division between lengths are c.put.new.self c.args.from c.args.to c.requires.from c.requires.to c.least_by_way-way.result c.least_by_way-way.ensures less
    (record { here = c.put.ensures.here; others = c.put.ensures.others })

pub returns-clause-less : goal.returns-clause-less
returns-clause-less c =
    let lengths = c.args.lengths.now in
    let less : is_less c.least_by_way-way.result (length_at lengths c.args.from c.args.to) ≡ true = ap (is_less c.least_by_way-way.result) (sym c.at.ensures) ∙ sym c.is_less.ensures ∙ c.if-not-is_less.false in
    let weighs = weighs_less c.least_by_way-way.result (length_at lengths c.args.from c.args.to) less (way_fits c.args.parts lengths c.args.from c.args.to c.least_by_way-way.result c.least_by_way-way.ensures) in
    omega (arith, c.put.ensures.weight)
