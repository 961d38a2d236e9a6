use Rattle.std.proofs.Common.{Some}
use Rattle.relay.proofs.relay.Relay.new.Given as goal

abbrev pub ghosts-part : goal.ghosts-part
ghosts-part g a = record { given = Some a.given.now }
