use Rattle.windows.proofs.Admitting.{least_asked, none_asked}
use Rattle.windows.proofs.part.Part.least.Goals as goal

pub returns-clause-least : goal.returns-clause-least
returns-clause-least g c = least_asked (g.Q.EventQueue.set c.args.self.now.queue) c.least.result c.least.ensures.least

pub returns-clause-none : goal.returns-clause-none
returns-clause-none g c = none_asked (g.Q.EventQueue.set c.args.self.now.queue) c.least.result c.least.ensures.none
