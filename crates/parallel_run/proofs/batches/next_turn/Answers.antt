use Rattle.std.proofs.Common.{◌≡◌, subst, arith}
use Rattle.trace.specs.contracts.row.RowOrd.TheImpl.{ghosts}
use Rattle.trace.specs.contracts.row.RowOrd.TheImpl.Laws.{total-law}
use Rattle.windows.proofs.Order.{by_place}
use Rattle.parallel_run.proofs.JoiningPlaces.{as_many}
use Rattle.parallel_run.proofs.LotsJoined.{AreLotsBelow, no_lots, one_more_in_turn}
use Rattle.parallel_run.proofs.LotsNext.{turn_of_all}
use Rattle.parallel_run.proofs.batches.next_turn.Goals as goal

pub loop-number-init : goal.loop-number-init
loop-number-init g c = λ basis is. no_lots basis c.args.since c.args.since 0 _ c.new.result.items c.new.ensures.items

pub loop-number-preserved : goal.loop-number-preserved
loop-number-preserved g c = λ basis is.
    one_more_in_turn basis c.args.since c.loop-number.number c.loop-number.all c.in_ok-all.all c.in_ok-lot.lot (c.loop-number.invariant basis is) (c.in_ok-lot.ensures.lot basis is)
    c.if-not-fits.ensures c.in_ok-all.ensures

pub returns-clause-next : goal.returns-clause-next
returns-clause-next g c = λ basis is.
    let known = c.requires.all basis is in
    let all : c.loop-number.number ≡ basis.deal.parts = omega (arith, known.1) in
    turn_of_all basis c.args.since _ c.loop-number.all.rows.items ghosts.cmp known.0
    (subst (λ n. AreLotsBelow basis c.args.since n c.loop-number.all.until c.loop-number.all.round c.loop-number.all.last c.loop-number.all.rows.items) all (c.loop-number.invariant basis is))
    (record { total = total-law; agrees = λ a b before. by_place a b _ before }) c.sort.ensures.same c.in_ok-sort.ensures.sorted

pub returns-in_err-sort-clause-count : goal.returns-in_err-sort-clause-count
returns-in_err-sort-clause-count g c = as_many c.args.takers.now.len c.loop-number.taker-items c.args.takers.now.items (omega arith) (omega arith)

pub returns-clause-count : goal.returns-clause-count
returns-clause-count g c = as_many c.args.takers.now.len c.loop-number.taker-items c.args.takers.now.items (omega arith) (omega arith)
