use Rattle.windows.proofs.Division.{stands_once}
use Rattle.windows.proofs.Members.{windows_here, none_left_here}
use Rattle.windows.proofs.laws.windows_are_safe_steps.Goals as goal

pub returns-clause-schedule : goal.returns-clause-schedule
returns-clause-schedule c = windows_here

pub returns-clause-one : goal.returns-clause-one
returns-clause-one c = λ division w u v windows. stands_once division w u v windows

pub returns-clause-none_left : goal.returns-clause-none_left
returns-clause-none_left c = none_left_here
