use Rattle.std.proofs.Common.{not, ap, sym, ◌∙◌}
use Rattle.member.specs.State.{is_probed}
use Rattle.member.proofs.member.Member.put_beside.Goals as goal

pub put_in-requires-clause-absent : goal.put_in-requires-clause-absent
put_in-requires-clause-absent c = ap is_probed (sym c.get.ensures ∙ c.in-Some.is) ∙ ap not (sym c.is_confirm.ensures ∙ c.if-is_confirm.true)
