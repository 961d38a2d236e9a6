use Rattle.std.proofs.Common.{◌≡◌, ℕ, List, length, ap, ◌∙◌, sym, subst, arith}
use Rattle.std.proofs.lemmas.Result.{on_ok_weaker}
use Rattle.std.specs.List.{AllByRecursion}
use Rattle.scenario.specs.Setup.{Setup}
use Rattle.scenario.specs.Division.{Deal}
use Rattle.lookahead.specs.Between.{part_number}
use Rattle.lookahead_windows.specs.Plan.{AreWaysInto}
use Rattle.lookahead_windows.specs.Basis.{way_at}
use Rattle.run_output.proofs.Early.{no_memory}
use Rattle.lookahead_windows.specs.Basis.{basis_of}
use Rattle.lookahead_windows.specs.Walks.{AreRoundWays}
use Rattle.parallel_run.specs.Dealt.{AreDealt}
use Rattle.parallel_run.specs.Relaying.{RowRelay, basis_by, basis_in}
use Rattle.parallel_run.specs.Relays.{AreNewSeats}
use Rattle.parallel_run.specs.declared.closed_relay.RunAccount.{RunAccount}
use Rattle.parallel_run.proofs.Relaying.{are_closed}
use Rattle.parallel_run.proofs.GateBounds.{awaits_rounds, ways_of}
use Rattle.parallel_run.proofs.run.run_into.Goals as goal

pub returns-in_err-links-clause-trace : goal.returns-in_err-links-clause-trace
returns-in_err-links-clause-trace g c = no_memory c.args.scenario.now (g.T.RowSink.held c.args.place.now) (g.T.RowSink.failed c.args.place.now) c.from_residual.result c.end-end.ensures.sound c.from_residual.ensures.1

pub returns-in_err-parts-clause-trace : goal.returns-in_err-parts-clause-trace
returns-in_err-parts-clause-trace g c = no_memory c.args.scenario.now (g.T.RowSink.held c.args.place.now) (g.T.RowSink.failed c.args.place.now) c.from_residual-in_err-parts.result c.end-end.ensures.sound c.from_residual-in_err-parts.ensures.1

pub returns-in_err-walks-clause-trace : goal.returns-in_err-walks-clause-trace
returns-in_err-walks-clause-trace g c = no_memory c.args.scenario.now (g.T.RowSink.held c.args.place.now) (g.T.RowSink.failed c.args.place.now) c.from_residual-in_err-walks.result c.end-end.ensures.sound c.from_residual-in_err-walks.ensures.1

pub returns-in_err-ways-clause-trace : goal.returns-in_err-ways-clause-trace
returns-in_err-ways-clause-trace g c = no_memory c.args.scenario.now (g.T.RowSink.held c.args.place.now) (g.T.RowSink.failed c.args.place.now) c.from_residual-in_err-ways.result c.end-end.ensures.sound c.from_residual-in_err-ways.ensures.1

pub returns-in_err-relays-clause-trace : goal.returns-in_err-relays-clause-trace
returns-in_err-relays-clause-trace g c = no_memory c.args.scenario.now (g.T.RowSink.held c.args.place.now) (g.T.RowSink.failed c.args.place.now) c.from_residual-in_err-relays.result c.end-end.ensures.sound c.from_residual-in_err-relays.ensures.1

-- ---- the ways into the parts

pub rounds_of-requires-clause-count : goal.rounds_of-requires-clause-count
rounds_of-requires-clause-count g c = ap length c.deref.ensures.value ∙ c.in_ok-ways.ensures.count ∙ c.in_ok-walks.ensures.parts

pub rounds_of-requires-clause-into : goal.rounds_of-requires-clause-into
rounds_of-requires-clause-into g c =
    let made = c.in_ok-walks.ensures.walks in
    subst (λ ways. AreWaysInto c.args.scenario.now (part_number c.args.division.now) (way_at ways)) (sym c.deref.ensures.value)
    (c.in_ok-ways.ensures.into c.args.division.now c.requires.divides c.in_ok-parts.ensures.below (record { parts = c.in_ok-walks.ensures.parts; between = made.0; least = made.1; walks = made.2 }))

-- ---- what the gate gets

pub by_workers-requires-clause-windows : goal.by_workers-requires-clause-windows
by_workers-requires-clause-windows g c _ _ =
    let s = c.args.scenario.now in
    let deal = c.args.division.now in
    let made = c.in_ok-walks.ensures.walks in
    let ways = c.rounds_of.ensures.ways ∙ c.deref.ensures.value in
    let by = ways_of s deal _ (record { parts = c.in_ok-walks.ensures.parts; between = made.0; least = made.1; walks = made.2 })
    (ap length ways ∙ c.in_ok-ways.ensures.count ∙ c.in_ok-walks.ensures.parts) (subst (AreRoundWays s _) (sym ways) c.in_ok-ways.ensures.ticks) in
    awaits_rounds g.G.Gate.awaits (basis_of c.rounds_of.result) s deal (ap (λ cluster. cluster.scenario.now) c.rounds_of.ensures.cluster) c.rounds_of.ensures.division by c.requires.windows

-- ---- the relays over which rows go

by_same : (s t : Setup) (d e : Deal) (v w : List ℕ) → s ≡ t → d ≡ e → v ≡ w → basis_by s d v ≡ basis_by t e w
by_same s t d e v w setup deal ways = λ i. basis_by (setup i) (deal i) (ways i)

pub by_workers-requires-clause-relay_seats : goal.by_workers-requires-clause-relay_seats
by_workers-requires-clause-relay_seats g c _ _ =
    let made = c.rounds_of.ensures in
    let same : basis_in c.of-run.result ≡ basis_of c.rounds_of.result =
    c.of-run.ensures ∙ by_same _ _ _ _ _ _ (sym (ap (λ cluster. cluster.scenario.now) made.cluster)) (sym made.division) (sym (made.ways ∙ c.deref.ensures.value)) in
    subst (λ (relays : List RowRelay). AllByRecursion (AreNewSeats relays (basis_of c.rounds_of.result)) c.in_ok-relays.relay_seats.items) (sym c.deref-2.ensures.value)
    (subst (λ basis. AllByRecursion (AreNewSeats c.in_ok-relays.relays.items basis) c.in_ok-relays.relay_seats.items) same c.in_ok-relays.ensures.seats)

pub by_workers-requires-clause-seats_each : goal.by_workers-requires-clause-seats_each
by_workers-requires-clause-seats_each g c _ _ = omega (arith, c.in_ok-relays.ensures.count.1)

-- ---- the relays as they were closed

pub returns-clause-relayed : goal.returns-clause-relayed
returns-clause-relayed g c =
    let account : RunAccount = record { relays = c.of-2.result; closed = c.by_workers.new.ended; board = c.by_workers.new.deals } in
    let made = c.in_ok-relays.ensures.count.0 in
    let each = c.in_ok-parts.ensures.opened.count in
    on_ok_weaker c.by_workers.result
    (λ relayed. are_closed c.args.scenario.now c.args.division.now c.deref.result.now (basis_in c.of-run.result) account c.in_ok-relays.relays c.deref-2.result.now c.of-2.ensures
    (c.of-run.ensures ∙ ap (λ ways. basis_by c.args.scenario.now c.args.division.now ways) (sym c.deref.ensures.value)) (omega (arith, made, each, c.len.ensures))
    c.in_ok-relays.ensures.given c.deref-2.ensures.value relayed) c.by_workers.ensures.relayed

pub by_workers-requires-clause-parts_each : goal.by_workers-requires-clause-parts_each
by_workers-requires-clause-parts_each g c _ _ = omega (arith, c.in_ok-relays.ensures.count.0, ap length c.deref-2.ensures.value, c.len.ensures)

-- ---- what was dealt and taken on the board

pub returns-clause-settled : goal.returns-clause-settled
returns-clause-settled g c =
    let some = c.parts.ensures in
    on_ok_weaker c.by_workers.result (λ dealt. (omega (arith, some.at_most_64.0, some.value), subst (λ n. AreDealt n c.by_workers.new.deals) c.in_ok-parts.ensures.opened.count dealt)) c.by_workers.ensures.settled
