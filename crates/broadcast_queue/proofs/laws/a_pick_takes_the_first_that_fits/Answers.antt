use Rattle.std.proofs.Common.{refl}
use Rattle.broadcast_queue.proofs.Picks.{first_fits}
use Rattle.broadcast_queue.proofs.laws.a_pick_takes_the_first_that_fits.Goals as goal

pub returns : goal.returns
returns c measure room items ordered = first_fits measure room items _ ordered refl
