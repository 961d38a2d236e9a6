use Rattle.std.proofs.Common.{sym, ap, ◌∙◌}
use Rattle.member.specs.StateOf.{state_of}
use Rattle.member.specs.Riding.{intents_for}
use Rattle.member.proofs.Ridings.{same_held, all_intents, both_made, both_left, claims_alone, left_alone}
use Rattle.member.proofs.member.Member.pick_waiting.Goals as goal

pub returns-then-has_no_intents-clause-updates : goal.returns-then-has_no_intents-clause-updates
returns-then-has_no_intents-clause-updates c =
    let s = c.args.here.now.scenario.now in
    let t = state_of c.args.self.now in
    let queue = c.queue-queue.result in
    let room = c.room_of-room.result in
    c.of.ensures
    ∙ claims_alone s c.args.here.now.key.to c.args.bearer t queue room c.queue-queue.ensures.value c.room_of-room.ensures _ c.in_ok-claims.ensures.picked
    (sym (same_held s queue room t) ∙ ap (λ v. v.life.intents) (sym c.in_ok-claims.ensures.left.ok) ∙ c.has_no_intents.ensures.0 c.if-has_no_intents.true)

pub returns-then-has_no_intents-clause-state : goal.returns-then-has_no_intents-clause-state
returns-then-has_no_intents-clause-state c =
    let s = c.args.here.now.scenario.now in
    let t = state_of c.args.self.now in
    let queue = c.queue-queue.result in
    let room = c.room_of-room.result in
    record {
      ok =
          left_alone s c.args.here.now.key.to c.args.bearer t queue room c.queue-queue.ensures.value c.room_of-room.ensures _ c.in_ok-claims.ensures.left.ok
          (sym (same_held s queue room t) ∙ ap (λ v. v.life.intents) (sym c.in_ok-claims.ensures.left.ok) ∙ c.has_no_intents.ensures.0 c.if-has_no_intents.true);
      memory = tt;
    }

pub returns-clause-updates : goal.returns-clause-updates
returns-clause-updates c =
    let s = c.args.here.now.scenario.now in
    let t = state_of c.args.self.now in
    let queue = c.queue-queue.result in
    let room = c.room_of-room.result in
    let v = state_of c.pick_claims.new.self in
    let left = c.in_ok-claims.claims.room in
    c.of-2.ensures
    ∙ both_made s c.args.here.now.key.to c.args.bearer t queue room c.queue-queue.ensures.value c.room_of-room.ensures _ _ _ c.in_ok-claims.ensures.picked
    (all_intents s c.args.here.now.key.to c.args.bearer t queue room c.queue-queue.ensures.value c.room_of-room.ensures _ _ _ c.in_ok-claims.ensures.room c.in_ok-claims.ensures.left.ok
    (c.in_ok-intents.ensures.picked ∙ ap (λ m. intents_for s m left v) c.measure_of.ensures))
    c.in_ok-append.ensures.items

pub returns-clause-state : goal.returns-clause-state
returns-clause-state c =
    let s = c.args.here.now.scenario.now in
    let t = state_of c.args.self.now in
    let queue = c.queue-queue.result in
    let room = c.room_of-room.result in
    let v = state_of c.pick_claims.new.self in
    let left = c.in_ok-claims.claims.room in
    record {
      ok =
          both_left s c.args.here.now.key.to c.args.bearer t queue room c.queue-queue.ensures.value c.room_of-room.ensures _ _ _ c.in_ok-claims.ensures.left.ok
          (all_intents s c.args.here.now.key.to c.args.bearer t queue room c.queue-queue.ensures.value c.room_of-room.ensures _ _ _ c.in_ok-claims.ensures.room c.in_ok-claims.ensures.left.ok
          (ap (λ m. intents_for s m left v) c.measure_of.ensures))
          c.in_ok-intents.ensures.left.ok;
      memory = tt;
    }
