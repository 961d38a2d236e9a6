use Rattle.std.proofs.Common.{◌≡◌, ◌*◌, ◌++◌, sym, ap, ◌∙◌, arith, is_some, decimal}
use Rattle.ticks.specs.Ticks.{unit_length, unit_word}
use Rattle.ticks.proofs.Words.{at_least, front_of, none_of, number_of, tick_if, out_of_range}
use Rattle.ticks.proofs.tick.tick_in.Goals as goal

pub returns-in_default-clause-none : goal.returns-in_default-clause-none
returns-in_default-clause-none c _ tick is =
    let parted = front_of c.args.word.now c.unit_word-name.result.now c.strip_suffix.result c.strip_suffix.ensures.cases in
    let none = rw c.in_default.is at parted in
    none (decimal is.number) (sym is.written ∙ ap (λ name. decimal is.number ++ name) (sym c.unit_word-name.ensures))

pub returns-in_default-number-clause-none : goal.returns-in_default-number-clause-none
returns-in_default-number-clause-none c _ tick is =
    let parted = front_of c.args.word.now c.unit_word-name.result.now c.strip_suffix.result c.strip_suffix.ensures.cases in
    let ends = rw c.in-Some.is at parted in
    let whole : c.args.word.now ≡ c.in-Some.front.now ++ unit_word c.args.unit = ends ∙ ap (λ name. c.in-Some.front.now ++ name) c.unit_word-name.ensures in
    c.number.ensures.none (ap is_some c.in_default-number.is) is.number (number_of c.args.unit c.args.word.now c.in-Some.front.now tick is whole)

pub returns-then-number-eq0-clause-none : goal.returns-then-number-eq0-clause-none
returns-then-number-eq0-clause-none c _ tick is =
    let parted = front_of c.args.word.now c.unit_word-name.result.now c.strip_suffix.result c.strip_suffix.ensures.cases in
    let ends = rw c.in-Some.is at parted in
    let whole : c.args.word.now ≡ c.in-Some.front.now ++ unit_word c.args.unit = ends ∙ ap (λ name. c.in-Some.front.now ++ name) c.unit_word-name.ensures in
    out_of_range c.args.unit c.args.word.now c.in-Some.front.now c.in-Some-number.number tick whole c.in-Some-number.ensures.some (λ range. none_of c.args.unit c.in-Some-number.number (omega (arith, c.if-number-eq0.true)) range.0) is

pub returns-then-number-gt-LONGEST-clause-none : goal.returns-then-number-gt-LONGEST-clause-none
returns-then-number-gt-LONGEST-clause-none c _ tick is =
    let parted = front_of c.args.word.now c.unit_word-name.result.now c.strip_suffix.result c.strip_suffix.ensures.cases in
    let ends = rw c.in-Some.is at parted in
    let whole : c.args.word.now ≡ c.in-Some.front.now ++ unit_word c.args.unit = ends ∙ ap (λ name. c.in-Some.front.now ++ name) c.unit_word-name.ensures in
    let more = at_least c.args.unit c.in-Some-number.number in
    out_of_range c.args.unit c.args.word.now c.in-Some.front.now c.in-Some-number.number tick whole c.in-Some-number.ensures.some (λ range. let few = range.1 in omega (arith, c.if-number-gt-LONGEST.true)) is

pub returns-then-microseconds-gt-LONGEST-clause-none : goal.returns-then-microseconds-gt-LONGEST-clause-none
returns-then-microseconds-gt-LONGEST-clause-none c _ tick is =
    let parted = front_of c.args.word.now c.unit_word-name.result.now c.strip_suffix.result c.strip_suffix.ensures.cases in
    let ends = rw c.in-Some.is at parted in
    let whole : c.args.word.now ≡ c.in-Some.front.now ++ unit_word c.args.unit = ends ∙ ap (λ name. c.in-Some.front.now ++ name) c.unit_word-name.ensures in
    let same : c.in-Some-number.number * c.unit_length.result ≡ c.in-Some-number.number * unit_length c.args.unit = ap (λ n. c.in-Some-number.number * n) c.unit_length.ensures.value in
    out_of_range c.args.unit c.args.word.now c.in-Some.front.now c.in-Some-number.number tick whole c.in-Some-number.ensures.some (λ range. let few = range.1 in omega (arith, c.if-microseconds-gt-LONGEST.true)) is

pub returns-clause-some : goal.returns-clause-some
returns-clause-some c =
    let parted = front_of c.args.word.now c.unit_word-name.result.now c.strip_suffix.result c.strip_suffix.ensures.cases in
    let ends = rw c.in-Some.is at parted in
    let whole : c.args.word.now ≡ c.in-Some.front.now ++ unit_word c.args.unit = ends ∙ ap (λ name. c.in-Some.front.now ++ name) c.unit_word-name.ensures in
    tick_if c.args.unit c.args.word.now c.in-Some.front.now c.in-Some-number.number _ whole c.in-Some-number.ensures.some
    (omega (arith, c.if-number-eq0.false)) (ap (λ n. c.in-Some-number.number * n) c.unit_length.ensures.value) (omega (arith, c.if-microseconds-gt-LONGEST.false))
