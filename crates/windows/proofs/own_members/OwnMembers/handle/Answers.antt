use Rattle.std.proofs.Common.{length, ap, ◌∙◌, sym, subst, refl}
use Rattle.std.specs.Result.{OnOk}
use Rattle.std.specs.Option.{option_map}
use Rattle.std.specs.FinMap.{get, insert}
use Rattle.std.proofs.lemmas.Option.{slice_get_read}
use Rattle.member.specs.StateOf.{state_of}
use Rattle.member.specs.Here.{HoldsMembers}
use Rattle.member.specs.Step.{step}
use Rattle.member.specs.Steps.{Steps}
use Rattle.member.specs.CounterOverflow.{IsOverflowed}
use Rattle.member.specs.declared.event.Event.{Event}
use Rattle.windows.specs.ByNumber.{StandsAt, IsPlaceOf}
use Rattle.windows.specs.WorldOf.{states_in}
use Rattle.windows.proofs.Deliveries.{if_ok, handled_by, handled_by_none}
use Rattle.windows.proofs.own_members.OwnMembers.handle.Goals as goal

pub returns-in_default-clause-ok : goal.returns-in_default-clause-ok
returns-in_default-clause-ok c =
    let own = c.args.self.now in
    handled_by_none _ _ _ _ _
    (ap (get (states_in own)) (sym c.receiver_of.ensures) ∙ subst (IsPlaceOf own.places.items own.members.items c.receiver_of.result) c.in_default.is c.place_of.ensures) refl

pub step-requires-clause-known : goal.step-requires-clause-known
step-requires-clause-known c =
    let own = c.args.self.now in
    let at : StandsAt own.places.items own.members.items c.receiver_of.result c.in-Some.place = subst (IsPlaceOf own.places.items own.members.items c.receiver_of.result) c.in-Some.is c.place_of.ensures in
    let here = slice_get_read own.members.items (length own.members.items) c.in-Some.place c.index_mut-member.result.now refl at.within c.index_mut-member.ensures.value in
    subst (λ (event : Event). HoldsMembers c.args.cluster.scenario.now event.key.to (state_of c.index_mut-member.result.now)) (sym c.in_parts.ensures)
    (c.requires.known (state_of c.index_mut-member.result.now) (ap (get (states_in own)) (sym c.receiver_of.ensures) ∙ at.there ∙ ap (option_map state_of) here))

pub returns-clause-ok : goal.returns-clause-ok
returns-clause-ok c =
    let s = c.args.cluster.scenario.now in
    let event = c.args.event in
    let own = c.args.self.now in
    let at : StandsAt own.places.items own.members.items c.receiver_of.result c.in-Some.place = subst (IsPlaceOf own.places.items own.members.items c.receiver_of.result) c.in-Some.is c.place_of.ensures in
    let here = slice_get_read own.members.items (length own.members.items) c.in-Some.place c.index_mut-member.result.now refl at.within c.index_mut-member.ensures.value in
    let t = state_of c.index_mut-member.result.now in
    let made = subst (λ (e : Event). OnOk c.step.result (Steps s e c.index_mut-member.result.now c.step.new.self c.args.out.now c.step.new.out)) c.in_parts.ensures c.step.ensures.ok in
    if_ok c.step.result made (λ steps.
    handled_by s event _ _ c.args.out.now c.step.new.out t (ap (get (states_in own)) (sym c.receiver_of.ensures) ∙ at.there ∙ ap (option_map state_of) here)
    (at.put c.step.new.self ∙ ap (λ q. insert (states_in own) q (state_of c.step.new.self)) c.receiver_of.ensures ∙ ap (insert (states_in own) event.key.to) steps.state)
    steps.events steps.rows)

pub returns-clause-overflow : goal.returns-clause-overflow
returns-clause-overflow c = λ overflow.
    let own = c.args.self.now in
    let at : StandsAt own.places.items own.members.items c.receiver_of.result c.in-Some.place = subst (IsPlaceOf own.places.items own.members.items c.receiver_of.result) c.in-Some.is c.place_of.ensures in
    let here = slice_get_read own.members.items (length own.members.items) c.in-Some.place c.index_mut-member.result.now refl at.within c.index_mut-member.ensures.value in
    record {
      member = state_of c.index_mut-member.result.now;
      there = ap (get (states_in own)) (sym c.receiver_of.ensures) ∙ at.there ∙ ap (option_map state_of) here;
      overflow =
          subst (λ (e : Event). IsOverflowed (step c.args.cluster.scenario.now e.key e.content (state_of c.index_mut-member.result.now)).state) c.in_parts.ensures (c.step.ensures.overflow overflow);
    }
