use Rattle.std.proofs.Common.{◌+◌, ◌∙◌, ap, sym, arith}
use Rattle.std.proofs.lemmas.List.{drop_all}
use Rattle.base.specs.World.{with_events}
use Rattle.drive_process.specs.Driven.{numbered_from}
use Rattle.drive_world.specs.WorldOf.{events_in}
use Rattle.drive_world.proofs.Scripts.{one_entry}
use Rattle.drive_world.proofs.opening.push_entries.Goals as goal

pub loop-place-preserved : goal.loop-place-preserved
loop-place-preserved c =
    one_entry c.args.member c.loop-place.place c.script-script.result.now c.index-script-place.result _ (events_in c.loop-place.pending) _ _ _ c.loop-place-test.true c.index-script-place.is
    c.script_event.ensures.key (c.script_event.ensures.content ∙ c.content_of-content.ensures) c.in_ok-push.ensures c.loop-place.invariant

pub returns : goal.returns
returns c =
    ap (λ l. with_events (events_in c.loop-place.pending) (numbered_from c.args.member (c.loop-place.place + 1) l))
    (sym (drop_all c.loop-place.place c.script-script.result.now (omega (arith, c.loop-place-test.false))))
    ∙ c.loop-place.invariant ∙ ap (λ l. with_events (events_in c.args.pending.now) (numbered_from c.args.member 1 l)) c.script-script.ensures.value
