use Rattle.std.proofs.Common.{◌∙◌, ap, sym}
use Rattle.std.specs.FinMap.{contains_key, insert}
use Rattle.windows.specs.WorldOf.{states_in, contents_in}
use Rattle.windows.proofs.Deliveries.{last_is_new, last_pended}
use Rattle.windows.proofs.steps.push_own.Goals as goal

pub push-requires-in-Some : goal.push-requires-in-Some
push-requires-in-Some g c =
    let own = contains_key (states_in c.args.members.now) in
    let now = contents_in (g.Q.EventQueue.set c.loop-event.queue) in
    ap (λ event. contains_key now event.key) c.in_parts.ensures
    ∙ last_is_new own _ now _ _ c.pop.new.self.items c.in-Some.event c.loop-event.invariant.pended c.in-Some.ensures.items c.requires.new

pub loop-event-preserved : goal.loop-event-preserved
loop-event-preserved g c =
    let own = contains_key (states_in c.args.members.now) in
    let now = contents_in (g.Q.EventQueue.set c.loop-event.queue) in
    record {
      pended =
          last_pended own _ now _ _ c.pop.new.self.items c.in-Some.event c.loop-event.invariant.pended c.in-Some.ensures.items c.requires.new _ (sym c.has.ensures ∙ c.if-not-has.false)
          (c.in_ok-push-2.ensures ∙ ap (λ event. insert now event.key event.content) c.in_parts.ensures);
    }
