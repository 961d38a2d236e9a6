use Rattle.std.proofs.Common.{[], ◌&&◌, ◌==◌, refl, sym, ap, ◌∙◌}
use Rattle.std.specs.Prelude.{if◌then◌else◌}
use Rattle.incidents.specs.OpenPlaces.{places_of}
use Rattle.incidents.proofs.Listing.{lines_seen}
use Rattle.incidents.proofs.lines.Lines.see_own.Goals as goal

pub see_open-requires : goal.see_open-requires
see_open-requires c = let are = c.requires.kept.2 in are.places c.args.member

pub returns-then-not-ends-clause-seen : goal.returns-then-not-ends-clause-seen
returns-then-not-ends-clause-seen c count returns few low are =
    let row = c.args.row.now in
    let places = places_of c.args.self.now.open_places in
    lines_seen c.args.self.now _ count returns row c.args.member few low c.requires.whom are c.see_open.ensures.long c.see_open.ensures.seen c.see_open.ensures.left refl
    (λ k. sym (ap (λ b. if b && (row.member == k) then [] else places k) (sym c.ends.ensures ∙ c.if-not-ends.true)))

pub returns-clause-seen : goal.returns-clause-seen
returns-clause-seen c count returns few low are =
    let row = c.args.row.now in
    let places = places_of c.args.self.now.open_places in
    lines_seen c.args.self.now _ count returns row c.args.member few low c.requires.whom are c.see_open.ensures.long c.see_open.ensures.seen c.see_open.ensures.left c.close.ensures.room
    (λ k. c.close.ensures.closed k ∙ sym (ap (λ b. if b && (row.member == k) then [] else places k) (sym c.ends.ensures ∙ c.if-not-ends.false)))
