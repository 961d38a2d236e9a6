use Rattle.std.proofs.Common.{◌≡◌}
use Rattle.drive_process.specs.Acts.{all_acted}
use Rattle.drive_process.specs.Answers.{AreSoundActions}
use Rattle.drive_process.specs.ProcessOf.{effect_of}
use Rattle.drive_process.proofs.process.Process.act_all.Given as goal

-- what the actions so far and those that are left do is what all do
abbrev pub invariant-loop-action : goal.invariant-loop-action
invariant-loop-action l = record {
  all : all_acted l.here.scenario.now l.here.key l.fn.actions.items (effect_of l.fn.self l.fn.effects)
      ≡ all_acted l.here.scenario.now l.here.key l.action-iterator.rest.items (effect_of l.self l.effects);
  sound : AreSoundActions l.here.scenario.now l.here.key.to l.action-iterator.rest.items;
}
