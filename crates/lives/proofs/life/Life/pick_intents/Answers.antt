use Rattle.std.proofs.Common.{sym, ◌∙◌}
use Rattle.lives.proofs.Held.{as_picked, none_picked}
use Rattle.lives.proofs.life.Life.pick_intents.Goals as goal

pub returns-in-None-clause-picked : goal.returns-in-None-clause-picked
returns-in-None-clause-picked c = c.new.ensures.items ∙ sym (none_picked c.args.self.now c.in-None.is c.args.carry c.args.limit)

pub returns-in-None-clause-left : goal.returns-in-None-clause-left
returns-in-None-clause-left c = as_picked c.args.self.now c.in-None.is c.args.carry c.args.limit
