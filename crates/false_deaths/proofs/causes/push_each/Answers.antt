use Rattle.std.proofs.Common.{◌≡◌, ◌++◌, ap, sym, subst, ◌∙◌, arith, take, flat_map}
use Rattle.std.specs.Prelude.{slice_get}
use Rattle.std.specs.String.{string_bytes}
use Rattle.series.specs.Deaths.{IsToldOf, deaths_of}
use Rattle.false_deaths.specs.Causes.{IsNamed, cause}
use Rattle.false_deaths.proofs.Naming.{at_named, can_tell, deaths_named, told_next}
use Rattle.false_deaths.proofs.causes.push_each.Goals as goal

pub push_slot-requires : goal.push_slot-requires
push_slot-requires c =
    let s = c.args.run.now.scenario.now in
    let rows = c.args.run.now.tallies.now in
    let deaths = deaths_of rows in
    let place = c.loop-place.place in
    can_tell s c.slot_at-slot.result (slice_get deaths place)
    (subst (λ slot. IsToldOf slot (slice_get deaths place)) (sym c.slot_at-slot.ensures) (c.requires.those.told place c.loop-place-test.true))
    (at_named (IsNamed s) deaths place (deaths_named s rows c.requires.told.named))

pub loop-place-preserved : goal.loop-place-preserved
loop-place-preserved c =
    let s = c.args.run.now.scenario.now in
    let deaths = deaths_of c.args.run.now.tallies.now in
    let place = c.loop-place.place in
    told_next (cause c.args.run.now.tick s) deaths place _ _ _ c.loop-place.invariant
    (c.in_ok-push_slot.ensures (slice_get deaths place)
    (subst (λ slot. IsToldOf slot (slice_get deaths place)) (sym c.slot_at-slot.ensures) (c.requires.those.told place c.loop-place-test.true)))

pub returns : goal.returns
returns c =
    let all : c.loop-place.place ≡ 20 = omega (arith, c.loop-place-test.false, c.loop-place.auto.place-end) in
    c.loop-place.invariant ∙ ap (λ n. string_bytes c.args.text.now ++ flat_map (cause c.args.run.now.tick c.args.run.now.scenario.now) (take n (deaths_of c.args.run.now.tallies.now))) all
