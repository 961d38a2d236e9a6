use Rattle.std.proofs.Common.{append_assoc, refl}
use Rattle.run_settings.specs.Settings.{bold_words}
use Rattle.run_settings.proofs.settings.push_bold_words.Goals as goal

pub returns : goal.returns
unfolding bold_words
returns c = simp (c.in_ok-push_str-3.ensures.bytes, c.in_ok-push_str-2.ensures.bytes, c.word_of.ensures, c.in_ok-push_str.ensures.bytes, append_assoc) refl
