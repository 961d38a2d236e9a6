use Rattle.std.proofs.Common.{append_assoc, refl}
use Rattle.false_deaths.specs.Troubles.{slow_sentence}
use Rattle.false_deaths.proofs.troubles.push_slow.Goals as goal

pub returns : goal.returns
unfolding slow_sentence
returns c = simp (c.in_ok-push_time.ensures, c.in_ok-push_timed.ensures, c.in_ok-open_sentence.ensures, append_assoc) refl
