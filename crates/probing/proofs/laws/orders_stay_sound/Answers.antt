use Rattle.std.proofs.Common.{◌+◌, ◌<◌, length, arith}
use Rattle.std.proofs.lemmas.Bool.Decides.{nat_tests}
use Rattle.std.proofs.lemmas.List.Edits.{length-insert}
use Rattle.streams.specs.Draw.{below_of}
use Rattle.streams.proofs.RangeLemmas.{below_fits}
use Rattle.probing.specs.ProbeOrder.{insert_of}
use Rattle.probing.proofs.SoundLemmas.{are_members-insert, members_bounded}
use Rattle.probing.proofs.RoundLemmas.{next_sound}
use Rattle.probing.proofs.MixedLemmas.{mixed_sound}
use Rattle.probing.proofs.DisplacedLemmas.{displaced_sound}
use Rattle.probing.proofs.OthersLemmas.{remove_sound}
use Rattle.probing.proofs.laws.orders_stay_sound.Goals as goal

pub returns-clause-next : goal.returns-clause-next
returns-clause-next c = next_sound

pub returns-clause-mix : goal.returns-clause-mix
returns-clause-mix c = mixed_sound

pub returns-clause-insert : goal.returns-clause-insert
unfolding insert_of
returns-clause-insert c words member order fit sound low absent =
    let size = length order.members in
    let place = (below_of words (size + 1)).0 in
    let short = members_bounded order.members sound.listed in
    let within : place < size + 1 = below_fits words (size + 1) fit (omega arith) (omega (arith, short)) in
    let more = length-insert order.members place member (omega (arith, within)) in
    record {
      listed = are_members-insert order.members place member low absent sound.listed;
      within = grind (arith, nat_tests, more, sound.within);
    }

pub returns-clause-displace : goal.returns-clause-displace
returns-clause-displace c = displaced_sound

pub returns-clause-remove : goal.returns-clause-remove
returns-clause-remove c = remove_sound
