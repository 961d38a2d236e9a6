use Rattle.std.proofs.Common.{Some, sym, ap, ◌∙◌}
use Rattle.piggyback.specs.Picked.{Counted}
use Rattle.piggyback.proofs.Sending.{place_within, place_own, found_at_place, absent}
use Rattle.piggyback.proofs.entries.entry_of.Goals as goal

pub bounds-entries-place : goal.bounds-entries-place
bounds-entries-place c = place_within c.args.subject c.args.entries.now _ c.in-Some.ensures

pub returns-in-Some-clause-own : goal.returns-in-Some-clause-own
returns-in-Some-clause-own c =
    let it = c.index-entries-place.result in
    ap (λ (x : Counted). x.0.subject) c.index-entries-place.is ∙ place_own c.args.subject c.args.entries.now c.in-Some.place it c.in-Some.ensures

pub returns-in-Some-clause-found : goal.returns-in-Some-clause-found
returns-in-Some-clause-found c =
    let these = c.args.entries.now in
    let it = c.index-entries-place.result in
    ap Some c.index-entries-place.is
    ∙ sym (found_at_place c.args.subject these c.in-Some.place it c.requires (place_within c.args.subject these _ c.in-Some.ensures) (place_own c.args.subject these _ it c.in-Some.ensures))

pub returns-in-None-clause-found : goal.returns-in-None-clause-found
returns-in-None-clause-found c = sym (absent c.args.subject c.args.entries.now c.in-None.ensures)
