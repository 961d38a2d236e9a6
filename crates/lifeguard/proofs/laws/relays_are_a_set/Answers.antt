use Rattle.lifeguard.specs.Relays.{relay_cmp}
use Rattle.std.specs.FinSet.{contains-empty}
use Rattle.lifeguard.proofs.RelaySets.{has-insert, has-remove}
use Rattle.lifeguard.proofs.laws.relays_are_a_set.Goals as goal

pub returns-clause-empty : goal.returns-clause-empty
returns-clause-empty c relay = contains-empty relay_cmp relay

pub returns-clause-added : goal.returns-clause-added
returns-clause-added c = has-insert

pub returns-clause-removed : goal.returns-clause-removed
returns-clause-removed c = has-remove
