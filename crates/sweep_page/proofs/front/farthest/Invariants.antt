use Rattle.std.proofs.Common.{◌≡◌, ℕ, max, fold, take}
use Rattle.std.specs.Prelude.{unwrap_or}
use Rattle.figures.specs.declared.summary.SettingSummary.{SettingSummary}
use Rattle.sweep_page.specs.Points.{across_of}
use Rattle.sweep_page.proofs.front.farthest.Given as goal

abbrev pub invariant-loop-setting : goal.invariant-loop-setting
invariant-loop-setting l = (l.most ≡ fold (λ (most : ℕ) (setting : SettingSummary). max most (unwrap_or (across_of l.crashed setting) 0)) 1 (take l.setting-index l.settings))
