use Rattle.std.proofs.Common.{◌-◌, ap, vec_len, ◌∙◌}
use Rattle.membership.specs.Columns.{claim_at}
use Rattle.membership.specs.Held.{claims_in}
use Rattle.membership.proofs.Columns.{nobody_made}
use Rattle.membership.proofs.table.nobody.Goals as goal

pub returns-clause-none : goal.returns-clause-none
returns-clause-none c k =
    ap (λ l. claim_at (claims_in l) k) c.in_ok-resize.ensures.items ∙ nobody_made c.new-claims.result.items c.args.places (c.args.places - vec_len c.new-claims.result) k c.new-claims.ensures.items
