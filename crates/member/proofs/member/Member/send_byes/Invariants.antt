use Rattle.std.proofs.Common.{◌≡◌, take}
use Rattle.member.specs.Here.{HoldsMembers}
use Rattle.member.specs.Send.{bye_sent, sent_to_each}
use Rattle.member.specs.StateOf.{effect_of, state_of}
use Rattle.member.proofs.member.Member.send_byes.Given as goal

abbrev pub invariant-loop-other : goal.invariant-loop-other
invariant-loop-other l = record {
  effect : effect_of l.self l.effects ≡ sent_to_each (bye_sent l.here.scenario.now l.here.key) (take l.other-index l.others) (effect_of l.fn.self l.fn.effects);
  known : HoldsMembers l.here.scenario.now l.here.key.to (state_of l.self);
}
