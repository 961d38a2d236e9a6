use Rattle.std.proofs.Common.{◌∙◌, sym}
use Rattle.incidents.proofs.Living.{whom_alive, whom_own, whom_none}
use Rattle.incidents.proofs.lines.whom.Goals as goal

pub returns-then-has_kind : goal.returns-then-has_kind
returns-then-has_kind c = whom_alive c.args.row.now (sym c.has_kind.ensures ∙ c.if-has_kind.true)

pub returns-then-is_of_itself : goal.returns-then-is_of_itself
returns-then-is_of_itself c = whom_own c.args.row.now (sym c.has_kind.ensures ∙ c.if-has_kind.false) (sym c.is_of_itself.ensures ∙ c.if-is_of_itself.true)

pub returns : goal.returns
returns c = whom_none c.args.row.now (sym c.has_kind.ensures ∙ c.if-has_kind.false) (sym c.is_of_itself.ensures ∙ c.if-is_of_itself.false)
