use Rattle.std.proofs.Common.{◌≡◌, take}
use Rattle.member.specs.Here.{HoldsMembers}
use Rattle.member.specs.Apply.{all_applied}
use Rattle.member.specs.StateOf.{effect_of, state_of}
use Rattle.member.proofs.member.Member.apply_all.Given as goal

abbrev pub invariant-loop-update : goal.invariant-loop-update
invariant-loop-update l = record {
  effect : effect_of l.self l.effects ≡ all_applied l.here.scenario.now l.telling l.here.key (take l.update-index l.updates) (effect_of l.fn.self l.fn.effects);
  known : HoldsMembers l.here.scenario.now l.here.key.to (state_of l.self);
}
