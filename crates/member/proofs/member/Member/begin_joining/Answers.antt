use Rattle.member.proofs.Openings.{holds_none}
use Rattle.member.proofs.member.Member.begin_joining.Goals as goal

pub ask_join-requires : goal.ask_join-requires
ask_join-requires c =
    holds_none c.args.here.now.scenario.now c.args.here.now.key.to _ _ _ _ c.new.ensures c.in_ok-rota.ensures.members c.in_ok-rota.ensures.sound c.requires.target c.requires.asked
