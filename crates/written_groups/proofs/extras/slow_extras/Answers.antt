use Rattle.std.proofs.Common.{List, IfOk, subst}
use Rattle.std.specs.List.{AllZip}
use Rattle.toml.specs.Data.{Data}
use Rattle.written_groups.specs.Groups.{IsExtraIn}
use Rattle.written_groups.proofs.extras.slow_extras.Goals as goal

pub returns : goal.returns
returns c = subst (λ (ds : List Data). IfOk c.extras.result (λ made. AllZip (IsExtraIn c.args.tick) ds made.items)) c.items_at.ensures c.extras.ensures
