use Rattle.std.proofs.Common.{◌≡◌, map, take}
use Rattle.member.specs.declared.announce.Announce.TheVariants.{Aloud}
use Rattle.member.specs.Here.{HoldsMembers}
use Rattle.member.specs.Apply.{all_applied}
use Rattle.member.specs.Step.{merged_claim}
use Rattle.member.specs.StateOf.{effect_of, state_of}
use Rattle.member.proofs.member.Member.merge.Given as goal

abbrev pub invariant-loop-entry : goal.invariant-loop-entry
invariant-loop-entry l = record {
  effect : effect_of l.self l.effects ≡ all_applied l.here.scenario.now Aloud l.here.key (map (merged_claim l.here.key.to) (take l.entry-index l.entries)) (effect_of l.fn.self l.fn.effects);
  known : HoldsMembers l.here.scenario.now l.here.key.to (state_of l.self);
}
