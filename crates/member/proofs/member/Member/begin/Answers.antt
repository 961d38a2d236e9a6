use Rattle.std.proofs.Common.{ap, ◌∙◌}
use Rattle.membership.specs.Table.{all_alive}
use Rattle.member.proofs.Openings.{first_distinct, holds_first, same_members}
use Rattle.member.proofs.member.Member.begin.Goals as goal

pub of-requires : goal.of-requires
of-requires c = first_distinct c.args.here.now.scenario.now c.args.here.now.key.to _ c.in_ok-others.ensures.others

pub take_up_round-requires : goal.take_up_round-requires
take_up_round-requires c =
    holds_first c.args.here.now.scenario.now c.args.here.now.key.to _ _ _ _ c.in_ok-others.others.items c.in_ok-others.ensures.others
    (c.in_ok-table.ensures ∙ ap all_alive c.deref.ensures.value) (same_members c.in_ok-rota.rota _ c.in_ok-rota.ensures.value) c.in_ok-rota.ensures.sound c.requires.target c.requires.asked
