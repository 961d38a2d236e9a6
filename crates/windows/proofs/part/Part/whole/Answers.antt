use Rattle.std.proofs.Common.{ap, ◌∙◌, sym}
use Rattle.std.specs.FinMap.{empty}
use Rattle.base.specs.World.{World}
use Rattle.member.specs.declared.event_kind.EventKind.{EventKind}
use Rattle.member.specs.State.{State}
use Rattle.worker_queue.proofs.Contents.{contents_by-empty}
use Rattle.windows.specs.Admitting.{with_member}
use Rattle.windows.specs.WorldOf.{world_of, contents_in, content_of}
use Rattle.windows.proofs.Admitting.{with_pending, scripts_from_below, one_more_opened}
use Rattle.windows.proofs.part.Part.whole.Goals as goal

pub loop-number-init : goal.loop-number-init
loop-number-init g c = c.new-part.ensures.world ∙ with_pending empty _ _ (ap contents_in c.requires ∙ contents_by-empty content_of)

pub admit-requires-clause-earlier : goal.admit-requires-clause-earlier
admit-requires-clause-earlier g c =
    scripts_from_below c.args.scenario.now c.loop-number.number (world_of g.Q.EventQueue.set c.loop-number.part).pending (ap (λ (w : World State EventKind). w.pending) c.loop-number.invariant)

pub loop-number-preserved : goal.loop-number-preserved
loop-number-preserved g c =
    let s = c.args.scenario.now in
    c.in_ok-admit.ensures.world ∙ ap (with_member s c.loop-number.number) c.loop-number.invariant ∙ sym (one_more_opened s c.loop-number.number)
