use Rattle.text_reader.proofs.Sound.{seed_answer}
use Rattle.text_reader.proofs.laws.an_answered_scenario_has_its_seed.Goals as goal

pub returns : goal.returns
returns c = λ d s is. seed_answer d s is
