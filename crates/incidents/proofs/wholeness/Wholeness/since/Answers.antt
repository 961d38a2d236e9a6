use Rattle.std.proofs.Common.{◌∙◌}
use Rattle.incidents.proofs.Wholes.{since_is}
use Rattle.incidents.proofs.wholeness.Wholeness.since.Goals as goal

pub returns : goal.returns
returns c cluster rows are = c.since_if.ensures ∙ since_is c.args.self.now cluster rows are
