use denote.Shadow.{shadow}
use denote.Text.{Utf8}
use Rattle.std.proofs.Common.{ℕ, ◌-◌, ◌≤◌}
use Rattle.sweep_plan.specs.Sweep.{seed_count}
use Rattle.sweep_until.specs.Until.{AreTooFew}
use Rattle.table_rows.specs.Settings.{HasSettingOf}
use Rattle.table_rows.proofs.OpenRows.{RowsSo}
use Rattle.table_rows.proofs.opened.open_rows.Given as goal

-- the first lines are read, which are too few
abbrev pub invariant-loop-run : goal.invariant-loop-run
invariant-loop-run l = record {
  utf8 : shadow (Utf8 l.left);
  low : l.first ≤ l.run;
  so : RowsSo l.key l.plan l.first l.text l.left l.started.items (l.run - l.first);
  few : (width : ℕ) → ¬ (HasSettingOf l.key l.plan width l.number l.text) → AreTooFew width (seed_count l.plan.seeds) l.started.items;
}
