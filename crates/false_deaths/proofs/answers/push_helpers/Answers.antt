use Rattle.std.proofs.Common.{append_assoc, refl}
use Rattle.false_deaths.specs.Causes.{helpers_words}
use Rattle.false_deaths.proofs.answers.push_helpers.Goals as goal

pub returns : goal.returns
unfolding helpers_words
returns c = simp (c.in_ok-push_str.ensures.bytes, c.in_ok-push_str-2.ensures.bytes, c.in_ok-push_str-3.ensures.bytes, c.in_ok-push_str-4.ensures.bytes, c.in_ok-push_str-5.ensures.bytes, c.in_ok-push_grouped.ensures, c.in_ok-push_grouped-2.ensures, c.in_ok-push_grouped-3.ensures, c.in_ok-push_grouped-4.ensures, append_assoc) refl
