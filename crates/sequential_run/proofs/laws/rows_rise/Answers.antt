use Rattle.base.proofs.Rising.{rows_rise}
use Rattle.member.specs.Step.{step}
use Rattle.member.specs.Opening.{opening}
use Rattle.member.specs.Places.{place_of}
use Rattle.member.proofs.Fair.{steps_later, steps_counted}
use Rattle.sequential_run.proofs.laws.rows_rise.Goals as goal

pub returns : goal.returns
returns c = λ s rows sound run.
    rows_rise (step s) (steps_later s sound) s.end place_of (steps_counted s sound) run.0 (opening s) run.1.last rows run.1.run
