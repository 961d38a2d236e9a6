use Rattle.std.proofs.Common.{◌≡◌, OnOk, ap, ◌∙◌, sym, subst}
use Rattle.std.specs.FinMap.{insert, contains_key}
use Rattle.member.specs.declared.event.Event.{Event}
use Rattle.windows.specs.WorldOf.{contents_in, content_of}
use Rattle.worker_queue.proofs.Contents.{still_pending, contents_by-insert}
use Rattle.windows.proofs.part.push.Goals.{in-Ok, in-Err}
use Rattle.windows.proofs.part.push.Goals as goal

pub push-requires : goal.push-requires
push-requires g c =
    let before = g.Q.EventQueue.set c.args.queue.now in
    ap (λ (event : Event). contains_key before event.key) c.in_parts.ensures ∙ sym (still_pending content_of before c.args.event.key) ∙ c.requires

pub returns : goal.returns
returns g c =
    let event = c.args.event in
    let before = g.Q.EventQueue.set c.args.queue.now in
    let after = contents_in (g.Q.EventQueue.set c.push.new.self) in
    elim c.match-push.branch [
      | in-Ok w ↦ subst (λ r. OnOk r (after ≡ insert (contents_in before) event.key event.content)) (sym w.result-is) (ap contents_in (w.in-Ok.ensures.ok ∙ ap (λ (event : Event). insert before event.key event) c.in_parts.ensures) ∙ contents_by-insert content_of before event.key event)
      | in-Err w ↦ subst (λ r. OnOk r (after ≡ insert (contents_in before) event.key event.content)) (sym w.result-is) tt
    ]
