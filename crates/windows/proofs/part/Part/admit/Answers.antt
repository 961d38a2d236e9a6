use Rattle.std.proofs.Common.{ap, ◌∙◌, arith}
use Rattle.base.specs.declared.key.Key.{Key}
use Rattle.member.specs.declared.event_kind.EventKind.{EventKind}
use Rattle.windows.specs.WorldOf.{contents_in}
use Rattle.windows.proofs.Admitting.{script_is_new, not_last, once_before_fourth}
use Rattle.windows.proofs.part.Part.admit.Goals as goal

pub push_ending-requires : goal.push_ending-requires
push_ending-requires g c =
    let start = c.script_event-start.result in
    record {
      named = c.requires.named;
      once = once_before_fourth c.args.scenario.now c.start.ensures.sound (λ last. not_last c.profile.result c.in-Papers.is (c.profile.ensures ∙ last)) c.args.member;
      new = λ at. script_is_new (contents_in (g.Q.EventQueue.set c.args.self.now.queue)) (contents_in (g.Q.EventQueue.set c.push.new.queue)) c.args.member start.key start.content
          c.requires.earlier c.in_ok-push.ensures (ap (λ (p : Key × EventKind). p.0.number) c.script_event-start.ensures) at 1 (omega arith);
    }

pub push_script-requires-clause-new : goal.push_script-requires-clause-new
push_script-requires-clause-new g c =
    let start = c.script_event-start.result in
    script_is_new (contents_in (g.Q.EventQueue.set c.args.self.now.queue)) (contents_in (g.Q.EventQueue.set c.push.new.queue)) c.args.member start.key start.content c.requires.earlier c.in_ok-push.ensures
    (ap (λ (p : Key × EventKind). p.0.number) c.script_event-start.ensures)
