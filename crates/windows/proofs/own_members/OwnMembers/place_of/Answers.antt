use Rattle.std.proofs.Common.{◌≡◌, ◌<◌, [], length, vec_len, None, sym, subst, arith}
use Rattle.std.proofs.lemmas.Bool.Decides.{nat_tests}
use Rattle.std.proofs.lemmas.Bool.{eqb-true}
use Rattle.std.proofs.lemmas.List.{get_or_past, get_or_read, nil_from_length}
use Rattle.windows.specs.ByNumber.{IsPlaceOf}
use Rattle.windows.proofs.Slots.{place_in_a_row, place_by_table}
use Rattle.windows.proofs.own_members.OwnMembers.place_of.Goals as goal

pub returns-then-is_empty : goal.returns-then-is_empty
returns-then-is_empty c =
    let own = c.args.self.now in
    let none : own.places.items ≡ [] = nil_from_length own.places.items (let zero = eqb-true (vec_len own.places) 0 (sym c.if-is_empty.ensures) in omega (arith, zero)) in
    subst (λ places. IsPlaceOf places own.members.items c.args.number c.place_within.result) (sym none)
    (place_in_a_row own.members.items c.args.number c.len.result c.place_within.result c.place_within.ensures.some c.place_within.ensures.none (omega (arith, c.len.ensures)))

pub returns-then-len-number : goal.returns-then-len-number
returns-then-len-number c =
    let own = c.args.self.now in
    let some : 0 < length own.places.items = grind (arith, nat_tests, c.if-is_empty.ensures) in
    let past = c.if-len-number.true in
    let count = c.len-2.ensures in
    place_by_table own.places.items own.members.items c.args.number None some (get_or_past own.places.items c.args.number None (omega (arith, past, count))) own.within own.apart

pub returns : goal.returns
returns c =
    let own = c.args.self.now in
    let some : 0 < length own.places.items = grind (arith, nat_tests, c.if-is_empty.ensures) in
    let before = c.if-len-number.false in
    let count = c.len-2.ensures in
    let within : c.args.number < length own.places.items = omega (arith, before, count) in
    place_by_table own.places.items own.members.items c.args.number c.index.result.now some (sym (get_or_read own.places.items c.args.number c.index.result.now within c.index.ensures None)) own.within own.apart
