use Rattle.lookahead_windows.proofs.OwnBounds.{own_bound, one_bound, goes_past}
use Rattle.lookahead_windows.proofs.own_bounds.each_part_has_a_bound_of_its_own.Goals as goal

pub returns-clause-is : goal.returns-clause-is
returns-clause-is c = own_bound

pub returns-clause-one : goal.returns-clause-one
returns-clause-one c = one_bound

pub returns-clause-past : goal.returns-clause-past
returns-clause-past c = goes_past
