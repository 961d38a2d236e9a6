use Rattle.text_reader.proofs.Sound.{sound_answer}
use Rattle.text_reader.proofs.laws.an_answered_scenario_is_sound.Goals as goal

pub returns : goal.returns
returns c = λ d s is. sound_answer d s is
