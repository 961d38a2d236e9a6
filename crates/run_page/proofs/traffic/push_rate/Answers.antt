use Rattle.std.proofs.Common.{append_assoc, refl}
use Rattle.run_page.specs.Traffic.{rate_words}
use Rattle.run_page.proofs.traffic.push_rate.Goals as goal

pub returns : goal.returns
unfolding rate_words
returns c = simp (c.in_ok-push_str-4.ensures.bytes, c.in_ok-push_hundredths.ensures, c.in_ok-push_str-3.ensures.bytes, c.in_ok-push_grouped-2.ensures, c.in_ok-push_str-2.ensures.bytes, c.in_ok-push_grouped.ensures, c.in_ok-push_str.ensures.bytes, append_assoc) refl
