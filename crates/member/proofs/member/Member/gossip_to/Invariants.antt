use Rattle.std.proofs.Common.{◌≡◌, take}
use Rattle.member.specs.Here.{HoldsMembers}
use Rattle.member.specs.Send.{gossip_sent, sent_to_each}
use Rattle.member.specs.StateOf.{effect_of, state_of}
use Rattle.member.proofs.member.Member.gossip_to.Given as goal

abbrev pub invariant-loop-to : goal.invariant-loop-to
invariant-loop-to l = record {
  effect : effect_of l.self l.effects ≡ sent_to_each (gossip_sent l.here.scenario.now l.here.key) (take l.to-index l.them) (effect_of l.fn.self l.fn.effects);
  known : HoldsMembers l.here.scenario.now l.here.key.to (state_of l.self);
}
