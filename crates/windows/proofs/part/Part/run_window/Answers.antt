use Rattle.member.proofs.Fair.{steps_later}
use Rattle.windows.proofs.part.Part.run_window.Goals as goal

pub invariant_of-setting : goal.invariant_of-setting
invariant_of-setting g c = record { later = steps_later c.args.cluster.scenario.now c.requires.sound }
