use Rattle.std.specs.List.{flat_map}
use Rattle.board.specs.Seats.{record_of, dealt, taken}
use Rattle.board.proofs.Steps.{sees, counted, none_lie}
use Rattle.board.proofs.seats.settle.Goals as goal

pub len_as-requires-clause-rule : goal.len_as-requires-clause-rule
len_as-requires-clause-rule g c = sees _ _ _ _

-- what lies on the board, and the balance
whole_balance : goal.returns-clause-balance
whole_balance g c =
    let all = c.gather-gathered.ensures in
    counted g.S.ItemRule.stands_for g.S.ItemRule.belongs c.len_as.result (record_of c.gather-gathered.result) (flat_map dealt c.args.seats.items) (flat_map taken c.args.seats.items)
    all.seat.1 all.dealt all.taken c.len_as.ensures.rule.1

pub returns-clause-balance : goal.returns-clause-balance
returns-clause-balance = whole_balance

pub returns-clause-all_taken : goal.returns-clause-all_taken
returns-clause-all_taken g c = none_lie c.len_as.result (flat_map dealt c.args.seats.items) (flat_map taken c.args.seats.items) (whole_balance g c)
