use Rattle.script_reader.specs.Rules.{item_of}
use Rattle.script_reader.proofs.Whom.{is_who}
use Rattle.script_reader.proofs.entries.who.Goals as goal

pub returns-clause-known : goal.returns-clause-known
returns-clause-known c = is_who c.args.roster.now c.args.groups.now (item_of c.args.it.now) c.requires.same c.requires.few _ c.in_ok-members_in.ensures
