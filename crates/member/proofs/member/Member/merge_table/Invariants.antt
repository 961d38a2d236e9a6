use Rattle.std.proofs.Common.{◌≡◌, take}
use Rattle.member.specs.Here.{HoldsMembers}
use Rattle.member.specs.Merges.{table_merged}
use Rattle.member.specs.StateOf.{effect_of, state_of}
use Rattle.member.proofs.member.Member.merge_table.Given as goal

abbrev pub invariant-loop-entry : goal.invariant-loop-entry
invariant-loop-entry l = record {
  effect : effect_of l.self l.effects ≡ table_merged l.here.scenario.now l.here.key (take l.entry-index l.entries) (effect_of l.fn.self l.fn.effects);
  known : HoldsMembers l.here.scenario.now l.here.key.to (state_of l.self);
}
