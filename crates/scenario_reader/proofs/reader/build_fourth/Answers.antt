use Rattle.toml.specs.View.{view}
use Rattle.scenario_reader.proofs.Chain.{fourth_nothing_broken}
use Rattle.scenario_reader.proofs.Sound.{fourth_sound_of}
use Rattle.scenario_reader.proofs.reader.build_fourth.Goals as goal

pub decide-requires-clause-sound : goal.decide-requires-clause-sound
decide-requires-clause-sound c = fourth_sound_of (view c.args.tree.now) c.requires.version c.requires.shape c.in-Ok.ensures.kept

pub returns-in-Ok-decide-clause-ok : goal.returns-in-Ok-decide-clause-ok
returns-in-Ok-decide-clause-ok c = (fourth_nothing_broken (view c.args.tree.now) c.in-Ok.ensures.kept, c.in-Ok-decide.ensures)
