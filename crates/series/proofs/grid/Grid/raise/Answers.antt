use Rattle.std.proofs.Common.{◌<◌, ◌+◌, ◌*◌, length, refl, sym, ap, arith}
use Rattle.std.specs.Prelude.{slice_set}
use Rattle.series.proofs.Grids.{raised_at}
use Rattle.series.proofs.Flowing.{read_at}
use Rattle.series.proofs.grid.Grid.raise.Goals as goal

pub returns-clause-raised : goal.returns-clause-raised
returns-clause-raised c t k low =
    let counts = c.args.self.now.counts.items in
    let place = c.args.track * 120 + c.args.span in
    let within : place < length counts = omega (arith, c.requires.span, c.requires.room) in
    raised_at counts _ c.args.track c.args.span t k c.requires.span low c.requires.room
    (ap (λ n. slice_set counts place (n + 1)) (sym (read_at counts place place c.index_mut.result.now refl within c.index_mut.ensures.value)))
