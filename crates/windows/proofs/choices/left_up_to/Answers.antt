use Rattle.std.proofs.Common.{sym, subst, arith}
use Rattle.worker_queue.specs.SetOf.{set_of}
use Rattle.windows.specs.Play.{IsLeastLeft}
use Rattle.windows.specs.WorldOf.{world_of}
use Rattle.windows.proofs.PlayEnds.{least_left, none_left_up_to, none_left_at_all}
use Rattle.windows.proofs.choices.left_up_to.Goals as goal

pub returns-in_err-least : goal.returns-in_err-least
returns-in_err-least c =
    let w = world_of set_of c.args.part.now in
    subst (IsLeastLeft c.args.end w) (sym c.from_residual.ensures) (none_left_at_all c.args.end w c.in_err-least.ensures.none)

pub returns-then-moment-last : goal.returns-then-moment-last
returns-then-moment-last c = least_left c.args.end (world_of set_of c.args.part.now) c.in_ok-least.least c.in_ok-least.ensures.least (omega arith)

pub returns-else-moment-last : goal.returns-else-moment-last
returns-else-moment-last c = none_left_up_to c.args.end (world_of set_of c.args.part.now) c.in_ok-least.least c.in_ok-least.ensures.least (omega arith)
