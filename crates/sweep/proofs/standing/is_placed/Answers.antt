use Rattle.std.proofs.Common.{◌≡◌, false, refl, true}
use Rattle.figures.proofs.MetadataWords.{if_ok_then}
use Rattle.sweep.specs.Sums.{IsPlaced}
use Rattle.sweep.proofs.Cells.{no_comma, no_metadata, not_so, placed_so}
use Rattle.sweep.proofs.standing.is_placed.Goals as goal

pub returns-in_default-clause-none : goal.returns-in_default-clause-none
returns-in_default-clause-none c = λ _. no_comma c.args.key.now c.args.plan.now c.args.number c.args.line.now (c.in_default.ensures.none refl)

pub returns-in-None-clause-none : goal.returns-in-None-clause-none
returns-in-None-clause-none c = λ _.
    no_metadata c.args.key.now c.args.plan.now c.args.number c.args.line.now c.in-Some.word.now c.in-Some.behind.now c.in-Some.ensures.some ((rw c.in-None.is at c.in_ok-metadata.ensures.none) refl)

pub returns-in-Some-2-clause-placed : goal.returns-in-Some-2-clause-placed
returns-in-Some-2-clause-placed c =
    if_ok_then c.is_behind_metadata.result _ (λ it. it ≡ true → IsPlaced c.args.key.now c.args.plan.now c.args.number c.args.line.now) c.is_behind_metadata.ensures.is
    (λ it its so.
    placed_so c.args.key.now c.args.plan.now c.args.number c.args.line.now c.in-Some.word.now c.in-Some.behind.now c.in-Some.ensures.some _ (rw c.in-Some-2.is at c.in_ok-metadata.ensures.some) (its so))

pub returns-in-Some-2-clause-none : goal.returns-in-Some-2-clause-none
returns-in-Some-2-clause-none c =
    if_ok_then c.is_behind_metadata.result _ (λ it. it ≡ false → ¬ (IsPlaced c.args.key.now c.args.plan.now c.args.number c.args.line.now)) c.is_behind_metadata.ensures.none
    (λ it none so.
    not_so c.args.key.now c.args.plan.now c.args.number c.args.line.now c.in-Some.word.now c.in-Some.behind.now c.in-Some.ensures.some _ (rw c.in-Some-2.is at c.in_ok-metadata.ensures.some) (none so))
