use Rattle.std.proofs.Common.{subst, sym}
use Rattle.figures.specs.Kept.{AreFiguresOf}
use Rattle.sweep_until.proofs.Counted.{kept_more}
use Rattle.sweep_until.proofs.runs.SettingRunsGather.add.Goals as goal

pub returns : goal.returns
returns c each runs kept =
    kept_more runs c.args.note.now c.args.self.now _ c.in_ok-alone.alone kept c.in_ok-alone.ensures
    (c.in_ok-self.ensures runs (subst (λ f. AreFiguresOf f runs) (sym c.replace-figures.ensures.value) kept.figures))
    c.args.self.now.figures.few c.saturating_add-self.ensures
