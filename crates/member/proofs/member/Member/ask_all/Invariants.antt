use Rattle.std.proofs.Common.{◌≡◌, take}
use Rattle.member.specs.Here.{HoldsMembers}
use Rattle.member.specs.Send.{ping_req_sent, sent_to_each}
use Rattle.member.specs.StateOf.{effect_of, state_of}
use Rattle.member.proofs.member.Member.ask_all.Given as goal

abbrev pub invariant-loop-helper : goal.invariant-loop-helper
invariant-loop-helper l = record {
  effect : effect_of l.self l.effects ≡ sent_to_each (ping_req_sent l.here.scenario.now l.here.key l.target l.seq) (take l.helper-index l.helpers) (effect_of l.fn.self l.fn.effects);
  known : HoldsMembers l.here.scenario.now l.here.key.to (state_of l.self);
}
