use Rattle.lookahead_windows.proofs.Turns.{some_round, one_round, round_opening, round_whole, round_horizons, round_number, bound_past}
use Rattle.lookahead_windows.proofs.laws.rounds_follow_each_other.Goals as goal

pub returns-clause-some : goal.returns-clause-some
returns-clause-some c = some_round

pub returns-clause-one : goal.returns-clause-one
returns-clause-one c = one_round

pub returns-clause-opening : goal.returns-clause-opening
returns-clause-opening c = round_opening

pub returns-clause-whole : goal.returns-clause-whole
returns-clause-whole c = round_whole

pub returns-clause-horizons : goal.returns-clause-horizons
returns-clause-horizons c = round_horizons

pub returns-clause-numbers : goal.returns-clause-numbers
returns-clause-numbers c = round_number

pub returns-clause-past : goal.returns-clause-past
returns-clause-past c = bound_past
