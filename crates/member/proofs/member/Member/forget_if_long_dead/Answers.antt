use Rattle.std.proofs.Common.{◌≡◌, true, not, ap, sym, ◌∙◌}
use Rattle.std.proofs.lemmas.Bool.{and_parts}
use Rattle.membership.specs.Table.{is_confirm}
use Rattle.member.specs.State.{is_probed}
use Rattle.member.proofs.member.Member.forget_if_long_dead.Goals as goal

pub forget-requires-clause-absent : goal.forget-requires-clause-absent
forget-requires-clause-absent c =
    let dead : is_confirm c.in-Some.held.0 ≡ true = (and_parts _ _ (sym c.is_long_dead.ensures ∙ c.if-not-is_long_dead.false)).0 in
    ap is_probed (sym c.get.ensures ∙ c.in-Some.is) ∙ ap not dead
