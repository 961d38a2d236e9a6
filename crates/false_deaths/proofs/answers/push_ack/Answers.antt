use Rattle.std.proofs.Common.{append_assoc, refl}
use Rattle.false_deaths.specs.Causes.{ack_words}
use Rattle.false_deaths.proofs.answers.push_ack.Goals as goal

pub returns : goal.returns
unfolding ack_words
returns c = simp (c.in_ok-push_str.ensures.bytes, c.in_ok-push_str-2.ensures.bytes, c.fate.ensures, c.in_ok-push_line.ensures, c.in_ok-push_timed.ensures, append_assoc) refl
