use Rattle.std.proofs.Common.{append_assoc, refl}
use Rattle.false_deaths.specs.Causes.{ping_words}
use Rattle.false_deaths.proofs.accusers.push_ping.Goals as goal

pub returns : goal.returns
unfolding ping_words
returns c = simp (c.in_ok-push_str-2.ensures.bytes, c.fate.ensures, c.in_ok-push_line.ensures, c.in_ok-push_timed.ensures, c.in_ok-push_str.ensures.bytes, append_assoc) refl
