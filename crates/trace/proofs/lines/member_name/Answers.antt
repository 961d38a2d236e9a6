use Rattle.std.proofs.Common.{◌≤◌, length, sym, subst}
use Rattle.trace.proofs.ShortFields.{name_short}
use Rattle.trace.proofs.lines.member_name.Goals as goal

pub returns-clause-short : goal.returns-clause-short
returns-clause-short c = subst (λ name. length name ≤ 97) (sym c.name.ensures.value) (name_short c.args.scenario.now c.name.ensures.sound c.args.member)
