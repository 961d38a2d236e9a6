use Rattle.std.proofs.Common.{sym, ◌∙◌}
use Rattle.lives.proofs.Held.{none_failed}
use Rattle.lives.proofs.life.Life.failed.Goals as goal

pub returns-in-None-clause-failed : goal.returns-in-None-clause-failed
returns-in-None-clause-failed c = c.new.ensures.items ∙ sym (none_failed c.args.self.now c.in-None.is c.args.members)
