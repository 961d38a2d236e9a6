use Rattle.std.proofs.Common.{◌≡◌, ◌<◌, length, Some, None, slice_set, ap, ◌∙◌, sym, subst, arith}
use Rattle.std.proofs.lemmas.List.{get_or_read}
use Rattle.windows.specs.ByNumber.{states_of}
use Rattle.windows.proofs.Slots.{AreWithin, put_by_table, push_by_table, pushed_within, pushed_apart}
use Rattle.windows.proofs.own_members.OwnMembers.put.Goals as goal

pub index_mut-requires : goal.index_mut-requires
index_mut-requires c =
    let own = c.args.self.now in
    let within : c.args.number < length own.places.items = omega (arith, c.requires) in
    let low = own.within c.args.number c.in-Some.place (sym (get_or_read own.places.items c.args.number c.index.result.now within c.index.ensures None) ∙ c.in-Some.is) in
    omega (arith, low)

pub returns-in-Some : goal.returns-in-Some
returns-in-Some c =
    let own = c.args.self.now in
    let within : c.args.number < length own.places.items = omega (arith, c.requires) in
    let some : 0 < length own.places.items = omega (arith, within) in
    put_by_table own.places.items own.members.items c.args.number c.in-Some.place c.args.member some
    (sym (get_or_read own.places.items c.args.number c.index.result.now within c.index.ensures None) ∙ c.in-Some.is) own.within own.apart

pub returns : goal.returns
returns c =
    let own = c.args.self.now in
    let within : c.args.number < length own.places.items = omega (arith, c.requires) in
    ap (λ members. states_of (slice_set own.places.items c.args.number (Some c.len-place.result)) members) c.in_ok-push.ensures.items
    ∙ push_by_table own.places.items own.members.items c.args.number c.len-place.result c.args.member within (omega (arith, c.len-place.ensures))
    (sym (get_or_read own.places.items c.args.number c.index.result.now within c.index.ensures None) ∙ c.in_default.is) own.within

pub invariant_of-self-2 : goal.invariant_of-self-2
invariant_of-self-2 c =
    let own = c.args.self.now in
    let reached : c.args.number < length own.places.items = omega (arith, c.requires) in
    let last : c.len-place.result ≡ length own.members.items = omega (arith, c.len-place.ensures) in
    record {
      within = subst (λ members. AreWithin (slice_set own.places.items c.args.number (Some c.len-place.result)) members) (sym c.in_ok-push.ensures.items)
          (pushed_within own.places.items own.members.items c.args.number c.len-place.result c.args.member reached last own.within);
      apart = pushed_apart own.places.items own.members.items c.args.number c.len-place.result reached last own.within own.apart;
    }
