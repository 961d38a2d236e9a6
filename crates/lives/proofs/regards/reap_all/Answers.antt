use Rattle.std.proofs.Common.{ap, ◌∙◌, arith}
use Rattle.std.proofs.Math.ListN.{set}
use Rattle.std.proofs.lemmas.List.Edits.{map_over_more}
use Rattle.lives.specs.Regards.{reaped}
use Rattle.lives.proofs.Columns.{all_reaped}
use Rattle.lives.proofs.regards.reap_all.Goals as goal

pub loop-place-preserved : goal.loop-place-preserved
loop-place-preserved c =
    ap (λ regard. set c.loop-place.column c.loop-place.place regard) c.reaped.ensures
    ∙ map_over_more (reaped c.args.now c.args.ticks) c.args.column.now c.loop-place.column c.loop-place.place c.index-column-place.result (omega arith) c.loop-place.invariant
    c.index-column-place.is

pub returns : goal.returns
returns c =
    all_reaped c.args.now c.args.ticks c.args.column.now c.loop-place.column c.loop-place.place c.loop-place.invariant (omega (arith, c.loop-place-test.false))
