use Rattle.lookahead_windows.proofs.WindowResult.{next_round, new_so_far, own_so_far}
use Rattle.lookahead_windows.proofs.laws.a_part_goes_by_its_messages.Goals as goal

pub returns-clause-next : goal.returns-clause-next
returns-clause-next c = next_round

pub returns-clause-new : goal.returns-clause-new
returns-clause-new c = new_so_far

pub returns-clause-own : goal.returns-clause-own
returns-clause-own c = own_so_far
