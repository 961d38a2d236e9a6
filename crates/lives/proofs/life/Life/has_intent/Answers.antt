use Rattle.lives.proofs.Held.{no_intent}
use Rattle.lives.proofs.life.Life.has_intent.Goals as goal

pub returns-in-None : goal.returns-in-None
returns-in-None c = no_intent c.args.self.now c.in-None.is c.args.subject
