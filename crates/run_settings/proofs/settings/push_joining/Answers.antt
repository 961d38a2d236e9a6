use Rattle.std.proofs.Common.{append_assoc, refl}
use Rattle.run_settings.specs.Settings.{joining_words}
use Rattle.run_settings.proofs.settings.push_joining.Goals as goal

pub returns : goal.returns
unfolding joining_words
returns c = simp (c.in_ok-push_contact.ensures, c.in_ok-push_start.ensures, append_assoc) refl
