use Rattle.std.proofs.Common.{sym}
use Rattle.piggyback.proofs.Holding.{get-keyed}
use Rattle.piggyback.proofs.Buffer.of.Goals as goal

pub returns-clause-found : goal.returns-clause-found
returns-clause-found c = rw (← c.self.view_is, c.entry_of.ensures.found, c.deref.ensures.value) (sym (get-keyed c.self.inside.entries.items c.args.subject))
