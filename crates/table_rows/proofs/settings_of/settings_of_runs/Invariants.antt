use denote.Shadow.{shadow}
use denote.Text.{Utf8}
use Rattle.table_rows.specs.Settings.{BeginsWithSettings}
use Rattle.table_rows.proofs.settings_of.settings_of_runs.Given as goal

-- the first settings are those of runs
abbrev pub invariant-loop-count : goal.invariant-loop-count
invariant-loop-count l = record { utf8 : shadow (Utf8 l.left); so : BeginsWithSettings l.key l.plan l.width l.first l.text l.left l.count }
