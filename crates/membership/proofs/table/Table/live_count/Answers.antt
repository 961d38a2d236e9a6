use Rattle.std.proofs.Common.{ap, ◌∙◌}
use Rattle.membership.specs.Numbers.{numbers_of}
use Rattle.membership.specs.Table.{live_count}
use Rattle.membership.specs.Held.{claims_in}
use Rattle.membership.proofs.Columns.{live_is}
use Rattle.membership.proofs.table.Table.live_count.Goals as goal

pub returns : goal.returns
returns c = live_is (claims_in c.self.inside.claims.items) (numbers_of c.self.inside.incs) c.self.inside.counts.live c.self.invariant.counted ∙ ap live_count c.self.view_is
