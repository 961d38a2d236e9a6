use Rattle.std.proofs.Common.{refl}
use Rattle.sweep.proofs.FirstSeed.{cell_there, noted, seeded, spaced, valued}
use Rattle.sweep.proofs.first_seeds.cell_behind.Goals as goal

pub returns-in_default-clause-none : goal.returns-in_default-clause-none
returns-in_default-clause-none c = λ _ cell has. spaced c.args.values.now c.args.text.now cell has (c.in_default.ensures.none refl)

pub returns-in_default-cut_at-clause-none : goal.returns-in_default-cut_at-clause-none
returns-in_default-cut_at-clause-none c = λ _ cell has.
    noted c.args.values.now c.args.text.now cell has c.in-Some._sum.now c.in-Some.line.now c.in-Some.ensures.some (c.in_default-cut_at.ensures.none refl)

pub returns-in_default-rest_behind-clause-none : goal.returns-in_default-rest_behind-clause-none
returns-in_default-rest_behind-clause-none c = λ _ cell has.
    valued c.args.values.now c.args.text.now cell has c.in-Some._sum.now c.in-Some.line.now c.in-Some.ensures.some c.in-Some-cut_at._metadata.now c.in-Some-cut_at.behind.now c.in-Some-cut_at.ensures.some
    (c.in_default-rest_behind.ensures.none refl)

pub returns-in-None-clause-none : goal.returns-in-None-clause-none
returns-in-None-clause-none c = λ _ cell has.
    seeded c.args.values.now c.args.text.now cell has c.in-Some._sum.now c.in-Some.line.now c.in-Some.ensures.some c.in-Some-cut_at._metadata.now c.in-Some-cut_at.behind.now c.in-Some-cut_at.ensures.some
    c.in-Some-rest_behind.cells.now c.in-Some-rest_behind.ensures.some (c.in-None.ensures.none refl)

pub returns-in-Some-cut_at-2-clause-some : goal.returns-in-Some-cut_at-2-clause-some
returns-in-Some-cut_at-2-clause-some c =
    cell_there c.args.values.now c.args.text.now c.in-Some._sum.now c.in-Some.line.now c.in-Some-cut_at._metadata.now c.in-Some-cut_at.behind.now c.in-Some-rest_behind.cells.now c.in-Some-cut_at-2.cell.now c.in-Some-cut_at-2._behind.now
    c.in-Some.ensures.some c.in-Some-cut_at.ensures.some c.in-Some-rest_behind.ensures.some c.in-Some-cut_at-2.ensures.some
