use Rattle.std.proofs.Common.{append_assoc, refl}
use Rattle.run_page.specs.Traffic.{width_words}
use Rattle.run_page.proofs.traffic.push_words.Goals as goal

pub returns : goal.returns
unfolding width_words
returns c = simp (c.in_ok-push_str-3.ensures.bytes, c.in_ok-push_lasting.ensures, c.in_ok-push_str-2.ensures.bytes, c.by_number.ensures, c.in_ok-push_grouped.ensures, c.in_ok-push_str.ensures.bytes, append_assoc) refl
