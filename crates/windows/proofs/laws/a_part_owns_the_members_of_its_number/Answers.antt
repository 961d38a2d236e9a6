use Rattle.windows.proofs.Wholes.{part_consistent, window_by_number}
use Rattle.windows.proofs.laws.a_part_owns_the_members_of_its_number.Goals as goal

pub returns-clause-consistent : goal.returns-clause-consistent
returns-clause-consistent c = λ s owns w whole. part_consistent s w whole owns

pub returns-clause-window : goal.returns-clause-window
returns-clause-window c = window_by_number
