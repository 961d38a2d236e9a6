use Rattle.std.proofs.Common.{ap, ◌∙◌}
use Rattle.membership.specs.Numbers.{numbers_of}
use Rattle.membership.specs.Table.{known_count}
use Rattle.membership.specs.Held.{claims_in}
use Rattle.membership.proofs.Columns.{known_is}
use Rattle.membership.proofs.table.Table.known_count.Goals as goal

pub returns : goal.returns
returns c = known_is (claims_in c.self.inside.claims.items) (numbers_of c.self.inside.incs) c.self.inside.counts.known c.self.invariant.all ∙ ap known_count c.self.view_is
