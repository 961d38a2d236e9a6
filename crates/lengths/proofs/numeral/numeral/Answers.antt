use Rattle.std.proofs.Common.{◌≡◌, ◌++◌, List, ℕ, length, take, refl, sym, ap, ◌∙◌, arith}
use Rattle.std.specs.Char.{is_ascii_digit}
use Rattle.std.specs.Str.{all_ascii_digits}
use Rattle.std.proofs.lemmas.List.Sums.{prefix_len-le-length}
use Rattle.lengths.proofs.Numerals.{whole_cut, pointed_one, taken_digits}
use Rattle.lengths.proofs.numeral.numeral.Goals as goal
use Rattle.lengths.proofs.numeral.numeral.Goals.{then-whole-eq0-via-then-whole-eq0, then-whole-eq0-via-else-whole-eq0+then-whole-most}

pub split_at-requires : goal.split_at-requires
split_at-requires c = omega (arith, prefix_len-le-length is_ascii_digit c.args.word.now, c.digits_first.ensures)

pub returns-then-whole-eq0-clause-none : goal.returns-then-whole-eq0-clause-none
returns-then-whole-eq0-clause-none c _ value is =
    let cut = whole_cut c.args.most c.args.places c.args.word.now value is c.digits_first.result c.digits_first.ensures in
    let some = is.some in
    let few = is.few in
    let long : length c.split_at.result.0.now ≡ length is.whole = ap length (c.split_at.ensures.front ∙ cut.0) in
    elim c.then-whole-eq0.branch [
      | then-whole-eq0-via-then-whole-eq0 w ↦ omega arith
      | then-whole-eq0-via-else-whole-eq0+then-whole-most w ↦ omega arith
    ]

pub returns-in_default-clause-none : goal.returns-in_default-clause-none
returns-in_default-clause-none c _ value is =
    let cut = whole_cut c.args.most c.args.places c.args.word.now value is c.digits_first.result c.digits_first.ensures in
    c.in_default.ensures.none refl is.fraction is.behind (sym (c.split_at.ensures.back ∙ cut.1))

pub returns-then-fraction-places-clause-none : goal.returns-then-fraction-places-clause-none
returns-then-fraction-places-clause-none c _ value is =
    let cut = whole_cut c.args.most c.args.places c.args.word.now value is c.digits_first.result c.digits_first.ensures in
    let fine = is.fine in
    let same : c.in-Some.fraction.now ≡ is.fraction = pointed_one c.in-Some.fraction.now is.fraction (c.in-Some.ensures.some.0 ∙ (c.split_at.ensures.back ∙ cut.1)) in
    let long : length c.in-Some.fraction.now ≡ length is.fraction = ap length same in
    omega arith

pub scaled-requires-clause-digits : goal.scaled-requires-clause-digits
scaled-requires-clause-digits c =
    ap all_ascii_digits (c.split_at.ensures.front ∙ ap (λ (n : ℕ). take n c.args.word.now) c.digits_first.ensures) ∙ taken_digits c.args.word.now

pub returns-clause-some : goal.returns-clause-some
returns-clause-some c =
    record {
      whole = c.split_at.result.0.now;
      fraction = c.in-Some.fraction.now;
      written = ap (λ (rest : List ℕ). c.split_at.result.0.now ++ rest) c.in-Some.ensures.some.0 ∙ sym c.split_at.ensures.by_index.0;
      digits = ap all_ascii_digits (c.split_at.ensures.front ∙ ap (λ (n : ℕ). take n c.args.word.now) c.digits_first.ensures) ∙ taken_digits c.args.word.now;
      some = omega arith;
      few = omega arith;
      behind = c.in-Some.ensures.some.1;
      fine = omega arith;
      counts = cc (c.scaled.ensures.value, c.scaled-2.ensures.value);
    }
