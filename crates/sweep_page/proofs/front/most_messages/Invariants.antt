use Rattle.std.proofs.Common.{◌≡◌, ℕ, max, fold, take}
use Rattle.std.specs.Prelude.{unwrap_or}
use Rattle.figures.specs.declared.summary.SettingSummary.{SettingSummary}
use Rattle.sweep_page.proofs.front.most_messages.Given as goal

abbrev pub invariant-loop-setting : goal.invariant-loop-setting
invariant-loop-setting l = (l.most ≡ fold (λ (most : ℕ) (setting : SettingSummary). max most (unwrap_or setting.messages 0)) 1 (take l.setting-index l.settings))
