-- What becomes of a member's table and of whom it probes where it takes in a claim about another (SWIM, sections 4.2 and 4.3).
use Rattle.std.specs.Prelude.{ℕ, Bool, if◌then◌else◌}
use Rattle.std.specs.FinMap.{get, insert}
use Rattle.incarnation.specs.declared.Update.{Update}
use Rattle.probing.specs.ProbeOrder.{ProbeOrder, insert_of, remove_of}
use Rattle.membership.specs.Table.{is_confirm}
use Rattle.member.specs.State.{State, is_probed}

-- the table has the claim
abbrev pub with_claim : Update → State → State
with_claim u t = record t { table = insert t.table u.subject (u.claim, u.inc) }

-- the subject at a drawn place of the rota
abbrev pub with_place : ℕ → State → State
with_place subject t =
    let placed = insert_of t.words subject t.rota in
    record t { rota = placed.0; words = placed.1 }

-- another order of probes
abbrev pub with_rota : ProbeOrder → State → State
with_rota rota t = record t { rota = rota }

-- who is confirmed is probed no more, and who wasn't probed is from now on (SWIM, section 4.3)
abbrev pub with_turn : Bool → Update → State → State
with_turn probed u t =
    if is_confirm u.claim then with_rota (remove_of u.subject t.rota) t
    else if probed then t
    else with_place u.subject t

-- The table has the claim, and the subject its turn among those who are probed, or none.
unfoldable pub claim_kept : Update → State → State
claim_kept u t = with_turn (is_probed (get t.table u.subject)) u (with_claim u t)
