use Rattle.std.proofs.Common.{append_assoc, refl}
use Rattle.run_summary.specs.Summary.{size_words}
use Rattle.run_summary.proofs.summary.push_size.Goals as goal

pub returns : goal.returns
unfolding size_words
returns c = simp (c.in_ok-push_str.ensures.bytes, c.in_ok-push_lasting.ensures, c.in_ok-push_with-2.ensures, c.in_ok-push_with.ensures, c.members.ensures.count, c.end.ensures.value, c.end-2.ensures.value, append_assoc) refl
