use Rattle.std.proofs.Common.{◌≡◌, ◌≤◌, ℕ, max, fold, take}
use Rattle.figures.specs.declared.summary.SettingSummary.{SettingSummary}
use Rattle.sweep_cells.specs.Words.{thousandths}
use Rattle.sweep_page.proofs.front.highest.Given as goal

abbrev pub invariant-loop-setting : goal.invariant-loop-setting
invariant-loop-setting l = (l.most ≤ 1000) × (l.most ≡ fold (λ (most : ℕ) (setting : SettingSummary). max most (thousandths setting.share_high)) 10 (take l.setting-index l.settings))
