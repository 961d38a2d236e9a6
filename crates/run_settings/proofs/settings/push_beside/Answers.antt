use Rattle.std.proofs.Common.{append_assoc, refl}
use Rattle.run_settings.specs.Settings.{settings_beside}
use Rattle.run_settings.proofs.settings.push_beside.Goals as goal

pub returns : goal.returns
unfolding settings_beside
returns c = simp (c.in_ok-close_figure.ensures, c.in_ok-push_str-2.ensures.bytes, c.in_ok-push_escaped.ensures, c.in_ok-push_str.ensures.bytes, c.in_ok-push_entries.ensures, c.in_ok-push_bold_words.ensures, c.in_ok-open_figure.ensures, append_assoc) refl
