use Rattle.std.proofs.Common.{◌≡◌, ◌<◌, length, None, ap, ◌∙◌, sym, arith}
use Rattle.std.proofs.lemmas.List.{get_or_past}
use Rattle.windows.specs.ByNumber.{states_of}
use Rattle.windows.proofs.Slots.{row_table}
use Rattle.windows.proofs.own_members.OwnMembers.set_places.Goals as goal

pub returns-clause-same : goal.returns-clause-same
returns-clause-same c =
    let members = c.args.self.now.members.items in
    let places = c.reach.new.places.items in
    let some : 0 < length places = omega (arith, c.in_ok-reach.ensures.reached) in
    let long : length c.in_ok-places.places.items ≡ length members = omega (arith, c.in_ok-places.ensures.len, c.len.ensures) in
    row_table places members some
    (λ k before. c.in_ok-reach.ensures.same k ∙ c.in_ok-places.ensures.each k (omega (arith, before, c.len.ensures)))
    (λ k past. c.in_ok-reach.ensures.same k ∙ get_or_past c.in_ok-places.places.items k None (omega (arith, past, long)))
    ∙ ap (λ l. states_of l members) (sym c.requires)
