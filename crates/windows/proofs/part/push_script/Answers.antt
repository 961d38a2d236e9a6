use Rattle.std.proofs.Common.{◌≡◌, ◌+◌, false, [], ◌∷◌, length, take, ap, ◌∙◌, sym, subst, refl, arith}
use Rattle.std.specs.FinMap.{contains_key, insert}
use Rattle.std.proofs.lemmas.List.{take_all, length-take-le}
use Rattle.std.proofs.lemmas.Option.{slice_get_read}
use Rattle.base.specs.declared.key.Key.{Key}
use Rattle.base.specs.World.{with_events}
use Rattle.member.specs.declared.event_kind.EventKind.{EventKind}
use Rattle.member.specs.Opening.{script_key, numbered_from, content_of}
use Rattle.windows.specs.WorldOf.{contents_in}
use Rattle.windows.proofs.Admitting.{numbered_new, one_more_numbered, with_events_append}
use Rattle.windows.proofs.part.push_script.Goals as goal

pub push-requires : goal.push-requires
push-requires g c =
    let place = c.loop-place.place in
    let key = c.script_event.result.key in
    let before = contents_in (g.Q.EventQueue.set c.args.queue.now) in
    let so_far = take place c.script-script.result.now in
    let is : key ≡ script_key c.args.member c.index-script-place.result.at (place + 1) = ap (λ (p : Key × EventKind). p.0) c.script_event.ensures in
    let number : key.number ≡ place + 1 = ap (λ (q : Key). q.number) is in
    let few : length so_far ≡ place = length-take-le place c.script-script.result.now c.loop-place.auto.place-end in
    let new : contains_key before key ≡ false =
    subst (λ (q : Key). contains_key before q ≡ false) (sym is) (c.requires.new c.index-script-place.result.at (place + 1) (omega arith)) in
    subst (λ p. contains_key p key ≡ false) (sym c.loop-place.invariant) (numbered_new c.args.member 1 so_far before key new (omega (arith, number, few)))

pub loop-place-preserved : goal.loop-place-preserved
loop-place-preserved g c =
    let m = c.args.member in
    let place = c.loop-place.place in
    let script = c.script-script.result.now in
    let e = c.index-script-place.result in
    let before = contents_in (g.Q.EventQueue.set c.args.queue.now) in
    let event = c.script_event.result in
    let here = slice_get_read script (length script) place e refl c.loop-place-test.true c.index-script-place.is in
    let key = ap (λ (p : Key × EventKind). p.0) c.script_event.ensures in
    let content = ap (λ (p : Key × EventKind). p.1) c.script_event.ensures ∙ c.content_of-content.ensures in
    c.in_ok-push.ensures
    ∙ ap (λ q. insert (contents_in (g.Q.EventQueue.set c.loop-place.queue)) q event.content) key
    ∙ ap (λ a. insert (contents_in (g.Q.EventQueue.set c.loop-place.queue)) (script_key m e.at (place + 1)) a) content
    ∙ ap (λ p. insert p (script_key m e.at (place + 1)) (content_of e.kind)) c.loop-place.invariant
    ∙ sym (with_events_append (numbered_from m 1 (take place script)) ((script_key m e.at (place + 1), content_of e.kind) ∷ []) before)
    ∙ ap (with_events before) (sym (one_more_numbered m place script e here))

pub returns : goal.returns
returns g c =
    c.loop-place.invariant
    ∙ ap (λ l. with_events (contents_in (g.Q.EventQueue.set c.args.queue.now)) (numbered_from c.args.member 1 l))
    (take_all c.loop-place.place c.script-script.result.now c.loop-place-test.false ∙ c.script-script.ensures.value)
