use denote.Shadow.{shadow}
use denote.Text.{Utf8}
use Rattle.table_rows.proofs.Read.{SumsUpSome}
use Rattle.table_rows.proofs.by_settings.read_settings.Given as goal

-- the first settings are read and summed up
abbrev pub invariant-loop-setting : goal.invariant-loop-setting
invariant-loop-setting l = record {
  utf8 : shadow (Utf8 l.left);
  so : SumsUpSome l.width l.each l.text l.left l.fn.settings.items l.settings.items l._setting;
}
