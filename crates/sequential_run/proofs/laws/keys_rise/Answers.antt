use Rattle.base.proofs.Rising.{keys_rise}
use Rattle.member.specs.Step.{step}
use Rattle.member.specs.Opening.{opening}
use Rattle.member.proofs.Fair.{steps_later}
use Rattle.sequential_run.proofs.laws.keys_rise.Goals as goal

pub returns : goal.returns
returns c = λ s keys rows sound run. keys_rise (step s) (steps_later s sound) s.end keys (opening s) run.last rows run.run
