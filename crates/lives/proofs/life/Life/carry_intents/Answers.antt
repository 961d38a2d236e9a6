use Rattle.lives.proofs.Held.{as_carried}
use Rattle.lives.proofs.life.Life.carry_intents.Goals as goal

pub returns-in_default : goal.returns-in_default
returns-in_default c = as_carried c.args.self.now c.in_default.is c.args.intents.now c.args.limit
