use Rattle.std.proofs.Common.{List, ℕ, refl, sym, subst, ◌∙◌, arith}
use Rattle.std.proofs.lemmas.List.Sums.{prefix_len-le-length}
use Rattle.lengths.specs.Numerals.{is_number_byte, IsNumeral}
use Rattle.lengths.proofs.Parts.{part_cut}
use Rattle.lengths.proofs.part.part.Goals as goal

pub split_at-requires : goal.split_at-requires
split_at-requires c = omega (arith, prefix_len-le-length is_number_byte c.args.text.now, c.number_bytes_first.ensures)

pub returns-in_default-clause-none : goal.returns-in_default-clause-none
returns-in_default-clause-none c _ rest total ends is =
    let cut = part_cut c.args.unit c.args.text.now rest total is c.number_bytes_first.result c.number_bytes_first.ensures in
    c.in_default.ensures.none refl is.number (subst (λ (word : List ℕ). IsNumeral 12 6 word is.number) (sym (c.split_at.ensures.front ∙ cut.0)) is.is)

pub returns-in_default-behind_unit-clause-none : goal.returns-in_default-behind_unit-clause-none
returns-in_default-behind_unit-clause-none c _ rest total ends is =
    let cut = part_cut c.args.unit c.args.text.now rest total is c.number_bytes_first.result c.number_bytes_first.ensures in
    c.in_default-behind_unit.ensures.none refl rest ends (c.split_at.ensures.back ∙ cut.1)
