use Rattle.std.proofs.Common.{append_assoc, refl}
use Rattle.run_page.specs.Health.{health_words}
use Rattle.run_page.proofs.health.push_words.Goals as goal

pub returns : goal.returns
unfolding health_words
returns c = simp (c.in_ok-push_str-3.ensures.bytes, c.in_ok-push_entry-4.ensures, c.in_ok-push_entry-3.ensures, c.in_ok-push_entry-2.ensures, c.in_ok-push_entry.ensures, c.in_ok-push_str-2.ensures.bytes, c.in_ok-push_str.ensures.bytes, append_assoc) refl
