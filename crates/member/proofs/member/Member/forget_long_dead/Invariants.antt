use Rattle.std.proofs.Common.{◌≡◌}
use Rattle.member.specs.Here.{HoldsMembers}
use Rattle.member.specs.Forgetting.{all_forgotten}
use Rattle.member.specs.StateOf.{effect_of, state_of}
use Rattle.member.proofs.member.Member.forget_long_dead.Given as goal

abbrev pub invariant-loop-number : goal.invariant-loop-number
invariant-loop-number l = record {
  effect : effect_of l.self l.effects ≡ all_forgotten l.here.scenario.now l.here.key l.number (effect_of l.fn.self l.fn.effects);
  known : HoldsMembers l.here.scenario.now l.here.key.to (state_of l.self);
}
