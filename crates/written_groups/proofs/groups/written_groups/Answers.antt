use Rattle.std.proofs.Common.{List, IfOk, subst}
use Rattle.std.specs.List.{AllZip}
use Rattle.toml.specs.Data.{Data}
use Rattle.written_groups.specs.Groups.{IsGroupIn}
use Rattle.written_groups.proofs.groups.written_groups.Goals as goal

pub returns : goal.returns
returns c = subst (λ (ds : List Data). IfOk c.groups.result (λ made. AllZip (IsGroupIn c.args.tick) ds made.items)) c.items_at.ensures c.groups.ensures
