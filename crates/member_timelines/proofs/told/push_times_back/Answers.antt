use Rattle.std.proofs.Common.{append_assoc, refl}
use Rattle.member_timelines.specs.Told.{again_words}
use Rattle.member_timelines.proofs.told.push_times_back.Goals as goal

pub returns : goal.returns
unfolding again_words
returns c = simp (c.in_ok-push_str-2.ensures.bytes, c.by_number.ensures, c.in_ok-push_grouped.ensures, c.in_ok-push_str.ensures.bytes, append_assoc) refl
