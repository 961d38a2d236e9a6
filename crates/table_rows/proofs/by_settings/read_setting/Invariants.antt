use denote.Shadow.{shadow}
use denote.Text.{Utf8}
use Rattle.table_rows.proofs.OneSetting.{GoesSo}
use Rattle.table_rows.proofs.by_settings.read_setting.Given as goal

-- the first lines are read, which are not enough
abbrev pub invariant-loop-run : goal.invariant-loop-run
invariant-loop-run l = record { utf8 : shadow (Utf8 l.left); goes : GoesSo l.width l.text l.left l.runs l._run }
