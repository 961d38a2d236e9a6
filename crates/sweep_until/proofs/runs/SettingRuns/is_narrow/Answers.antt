use Rattle.std.proofs.Common.{◌≡◌, ◌∙◌, ap, arith, length}
use Rattle.figures.specs.Settings.{runs_with}
use Rattle.sweep_until.specs.Widths.{is_narrow}
use Rattle.sweep_until.proofs.Counted.{few_with}
use Rattle.sweep_until.proofs.runs.SettingRuns.is_narrow.Goals as goal

pub returns : goal.returns
returns c = λ runs kept.
    let count : c.runs-runs.result ≡ length runs = c.runs-runs.ensures ∙ kept.figures.all in
    let least : c.min.result ≡ runs_with runs = omega (arith, c.min.ensures, count, kept.with_thrown, few_with runs) in
    c.is_narrow.ensures ∙ ap (λ k. is_narrow c.args.width k c.runs-runs.result) least ∙ ap (λ n. is_narrow c.args.width (runs_with runs) n) count
