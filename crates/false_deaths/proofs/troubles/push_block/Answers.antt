use Rattle.std.proofs.Common.{append_assoc, refl}
use Rattle.false_deaths.specs.Troubles.{block_sentence}
use Rattle.false_deaths.proofs.troubles.push_block.Goals as goal

pub returns : goal.returns
unfolding block_sentence
returns c = simp (c.in_ok-push_time.ensures, c.in_ok-open_sentence.ensures, append_assoc) refl
