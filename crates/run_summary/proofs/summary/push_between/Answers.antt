use Rattle.std.proofs.Common.{append_assoc, refl}
use Rattle.run_summary.specs.Summary.{between_words}
use Rattle.run_summary.proofs.summary.push_between.Goals as goal

pub returns : goal.returns
unfolding between_words
returns c = simp (c.in_ok-push_str-3.ensures.bytes, c.in_ok-push_lasting_from.ensures, c.in_ok-push_str-2.ensures.bytes, c.in_ok-push_greatest.ensures, c.in_ok-push_grouped.ensures, c.in_ok-push_str.ensures.bytes, append_assoc) refl
