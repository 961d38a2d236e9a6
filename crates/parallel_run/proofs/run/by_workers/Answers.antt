use Rattle.std.proofs.Common.{◌≡◌, ◌↔◌, ℕ, List, Option, OnOk, ap, ◌∙◌, sym, subst, refl}
use Rattle.std.specs.FinMap.{FinMap, get}
use Rattle.base.specs.Order.{key_cmp}
use Rattle.member.specs.declared.event.Event.{Event}
use Rattle.member.specs.Opening.{opening}
use Rattle.windows.specs.declared.part.Part.{Part}
use Rattle.windows.proofs.Members.{receiver_low}
use Rattle.windows.proofs.WholeOpening.{opening_whole}
use Rattle.turns.specs.Parts.{StandFor, NonePendsBefore}
use Rattle.turns.proofs.Goes.{none_of_parts, none_of_world}
use Rattle.lookahead_windows.specs.Starts.{IsUpTo, IsFirstMoment}
use Rattle.lookahead_windows.specs.Basis.{Basis, IsBasis, basis_of}
use Rattle.run_output.proofs.Early.{no_memory}
use Rattle.parallel_run.specs.Dealt.{AreDealt, all_begun}
use Rattle.parallel_run.proofs.WritingTurns.{one_basis}
use Rattle.parallel_run.proofs.run.by_workers.Goals as goal

-- what pends first in the parts pends first in the world for which they stand
first_of_parts : {Q : Type 0} (set : Q → FinMap key_cmp Event) (basis : Basis) (parts slice : List (Part Q)) (first : Option ℕ) → IsBasis basis → StandFor set basis.deal parts (opening basis.setup)
    → slice ≡ parts → ((t : ℕ) → NonePendsBefore set slice t ↔ IsUpTo first t) → IsFirstMoment (opening basis.setup) first
first_of_parts set basis parts slice first is stand same least t =
    let s = basis.setup in
    let here = subst (λ l. NonePendsBefore set l t ↔ IsUpTo first t) same (least t) in (
      λ none. here.0 (none_of_parts set basis.deal parts (opening s) stand t none),
      λ up. none_of_world set basis.deal parts (opening s) stand t (λ q there. is.plan.below q.to (receiver_low s (opening s) q (get (opening s).pending q) (opening_whole s is.plan.sound).sound refl there)) (here.1 up),
    )

pub returns-in_err-event_counts-clause-trace : goal.returns-in_err-event_counts-clause-trace
returns-in_err-event_counts-clause-trace g c = no_memory c.args.rounds.now.cluster.scenario.now (g.T.RowSink.held c.args.place.now) (g.T.RowSink.failed c.args.place.now) c.from_residual.result c.requires.rounds.basis.plan.sound c.from_residual.ensures.1

pub ends_of-requires-clause-run : goal.ends_of-requires-clause-run
ends_of-requires-clause-run g c = (basis_of c.args.rounds.now, c.requires.run, c.requires.relay_seats)

pub returns-in_err-ends-clause-trace : goal.returns-in_err-ends-clause-trace
returns-in_err-ends-clause-trace g c = no_memory c.args.rounds.now.cluster.scenario.now (g.T.RowSink.held c.args.place.now) (g.T.RowSink.failed c.args.place.now) c.from_residual-in_err-ends.result c.requires.rounds.basis.plan.sound c.from_residual-in_err-ends.ensures.1

pub returns-in_err-processes-clause-trace : goal.returns-in_err-processes-clause-trace
returns-in_err-processes-clause-trace g c = no_memory c.args.rounds.now.cluster.scenario.now (g.T.RowSink.held c.args.place.now) (g.T.RowSink.failed c.args.place.now) c.from_residual-in_err-processes.result c.requires.rounds.basis.plan.sound c.from_residual-in_err-processes.ensures.1

pub processes_of-requires-clause-run : goal.processes_of-requires-clause-run
processes_of-requires-clause-run g c = λ basis known.
    let own = basis_of c.args.rounds.now in
    let set = g.Q.EventQueue.set in
    subst (λ (b : Basis). IsBasis b × StandFor set b.deal c.args.parts.items (opening b.setup) × IsFirstMoment (opening b.setup) c.first_pending-first.result) (one_basis g.K.OfRun.basis own basis c.requires.run known) (
      c.requires.rounds.basis,
      c.requires.opened,
      first_of_parts set own c.args.parts.items c.deref.result.now c.first_pending-first.result c.requires.rounds.basis c.requires.opened c.deref.ensures.value c.first_pending-first.ensures,
    )

pub returns-in_err-crew-clause-trace : goal.returns-in_err-crew-clause-trace
returns-in_err-crew-clause-trace g c = no_memory c.args.rounds.now.cluster.scenario.now (g.T.RowSink.held c.args.place.now) (g.T.RowSink.failed c.args.place.now) c.from_residual-in_err-crew.result c.requires.rounds.basis.plan.sound c.from_residual-in_err-crew.ensures.1

pub returns-in_err-board-clause-trace : goal.returns-in_err-board-clause-trace
returns-in_err-board-clause-trace g c = no_memory c.args.rounds.now.cluster.scenario.now (g.T.RowSink.held c.args.place.now) (g.T.RowSink.failed c.args.place.now) c.from_residual-in_err-board.result c.requires.rounds.basis.plan.sound c.from_residual-in_err-board.ensures.1

pub over_board-outcome-requires-clause-start : goal.over_board-outcome-requires-clause-start
over_board-outcome-requires-clause-start g c = λ loans lives. record {
  going = c.requires.rounds;
  run = c.requires.run;
  known = c.requires.known;
  windows = c.requires.windows;
  writes = record {
    basis_is = c.requires.rounds.basis;
    one = refl;
    takers = c.in_ok-processes.ensures.takers ∙ c.requires.opened.count;
    none_tallied = c.new.ensures;
  };
}

pub returns-clause-relayed : goal.returns-clause-relayed
returns-clause-relayed g c = c.over_board-outcome.ensures.relayed

pub over_board-outcome-requires-clause-numbers : goal.over_board-outcome-requires-clause-numbers
over_board-outcome-requires-clause-numbers g c = λ loans lives. c.in_ok-processes.ensures.numbers ∙ ap all_begun (c.in_ok-processes.ensures.count ∙ sym c.requires.parts_each)

pub returns-clause-settled : goal.returns-clause-settled
returns-clause-settled g c = subst (λ n. OnOk c.over_board-outcome.result.0 (AreDealt n c.over_board-outcome.result.2)) c.requires.parts_each c.over_board-outcome.ensures.dealt
