use Rattle.std.proofs.Common.{◌≡◌, ◌∙◌, ap, false, refl, true}
use Rattle.figures.proofs.MetadataWords.{if_ok_then}
use Rattle.sweep.specs.Sums.{IsBehindMetadata, value_cells}
use Rattle.sweep.proofs.Cells.{no_cells, other_values, is_behind}
use Rattle.sweep.proofs.standing.is_behind_metadata.Goals as goal

pub returns-in_default-clause-none : goal.returns-in_default-clause-none
returns-in_default-clause-none c = λ _.
    other_values c.args.key.now c.args.plan.now c.args.number c.args.metadata.now c.args.behind.now c.in_ok-run.run'.setting.items c.in_ok-run.run'.seed c.in_ok-run.ensures.run c.in_ok-run.ensures.fits
    _ refl _ (c.as_bytes.ensures.value ∙ c.in_ok-values.ensures ∙ ap value_cells c.deref.ensures.value) (c.in_default.ensures.none refl)

pub returns-clause-is : goal.returns-clause-is
returns-clause-is c =
    if_ok_then c.are_cells_of.result _ (λ it. it ≡ true → IsBehindMetadata c.args.key.now c.args.plan.now c.args.number c.args.metadata.now c.args.behind.now) c.are_cells_of.ensures.are
    (λ it are so.
    is_behind c.args.key.now c.args.plan.now c.args.number c.args.metadata.now c.args.behind.now c.in_ok-run.run'.setting.items c.in_ok-run.run'.seed c.in_ok-run.ensures.run c.in_ok-run.ensures.fits
    _ c.known_seed-seed.ensures _ (c.as_bytes.ensures.value ∙ c.in_ok-values.ensures ∙ ap value_cells c.deref.ensures.value) c.in-Some.cells.now c.in-Some.ensures.some (are so))

pub returns-clause-none : goal.returns-clause-none
returns-clause-none c =
    if_ok_then c.are_cells_of.result _ (λ it. it ≡ false → ¬ (IsBehindMetadata c.args.key.now c.args.plan.now c.args.number c.args.metadata.now c.args.behind.now)) c.are_cells_of.ensures.none
    (λ it none so.
    no_cells c.args.key.now c.args.plan.now c.args.number c.args.metadata.now c.args.behind.now c.in_ok-run.run'.setting.items c.in_ok-run.run'.seed c.in_ok-run.ensures.run c.in_ok-run.ensures.fits
    _ c.known_seed-seed.ensures _ (c.as_bytes.ensures.value ∙ c.in_ok-values.ensures ∙ ap value_cells c.deref.ensures.value) c.in-Some.cells.now c.in-Some.ensures.some (none so))
