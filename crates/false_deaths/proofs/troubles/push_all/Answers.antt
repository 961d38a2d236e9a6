use Rattle.std.proofs.Common.{append_assoc, refl}
use Rattle.false_deaths.specs.Troubles.{states_told}
use Rattle.false_deaths.proofs.troubles.push_all.Goals as goal

pub returns : goal.returns
unfolding states_told
returns c = simp (c.in_ok-push_well.ensures, c.in_ok-push_cut_told.ensures, c.in_ok-push_block_told.ensures, c.in_ok-push_pause_told.ensures, c.in_ok-push_slow_told.ensures, append_assoc) refl
