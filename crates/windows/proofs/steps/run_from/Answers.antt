use Rattle.std.proofs.Common.{◌≡◌, Bool, All, ◌∙◌, sym, subst, rules}
use Rattle.std.specs.Bool.{OnTrue, OnFalse}
use Rattle.member.specs.declared.event.Event.{Event}
use Rattle.member.specs.declared.event.Effects.{Effects}
use Rattle.member_laws.specs.Words.{IsAmongMembers}
use Rattle.worker_queue.specs.Queue.{NoneIsBelow}
use Rattle.windows.specs.WorldOf.{world_of}
use Rattle.windows.specs.Window.{is_own, IsConsistentPart, TakeTheirLinks}
use Rattle.windows.specs.Handling.{Advances}
use Rattle.windows.proofs.PartWindows.{IsWindowSoFar, one_more, fewer, window_wears, window_consistent, window_among, window_far, window_over}
use Rattle.windows.proofs.steps.run_from.Goals as goal

pub advance-requires-clause-consistent : goal.advance-requires-clause-consistent
advance-requires-clause-consistent g c =
    window_consistent c.args.setting.now.cluster.scenario.now c.args.setting.now.bound (world_of g.Q.EventQueue.set c.args.part.now) (world_of g.Q.EventQueue.set c.loop.part) c.loop.made c.loop.invariant.window
    c.requires.sound c.requires.in_time c.requires.consistent

pub loop-smaller : goal.loop-smaller
loop-smaller g c =
    let s = c.args.setting.now.cluster.scenario.now in
    let bound = c.args.setting.now.bound in
    let before = world_of g.Q.EventQueue.set c.loop.part in
    let after = world_of g.Q.EventQueue.set c.advance.new.part in
    let went = subst (λ (b : Bool). OnTrue b (Advances s (is_own before) bound before after c.loop.made c.advance.new.out)) c.if-branch.true c.in_ok-advance.ensures.went in
    fewer s bound (world_of g.Q.EventQueue.set c.args.part.now) before c.loop.made c.loop.invariant.window _ after c.advance.new.out went

pub loop-preserved : goal.loop-preserved
loop-preserved g c =
    let s = c.args.setting.now.cluster.scenario.now in
    let bound = c.args.setting.now.bound in
    let before = world_of g.Q.EventQueue.set c.loop.part in
    let after = world_of g.Q.EventQueue.set c.advance.new.part in
    let went = subst (λ (b : Bool). OnTrue b (Advances s (is_own before) bound before after c.loop.made c.advance.new.out)) c.if-branch.true c.in_ok-advance.ensures.went in
    record {
      window = one_more s bound (world_of g.Q.EventQueue.set c.args.part.now) before c.loop.made c.loop.invariant.window after c.advance.new.out went;
      number = c.in_ok-advance.ensures.number ∙ c.loop.invariant.number;
    }

pub returns-clause-ok : goal.returns-clause-ok
returns-clause-ok g c =
    let s = c.args.setting.now.cluster.scenario.now in
    let bound = c.args.setting.now.bound in
    let opened = world_of g.Q.EventQueue.set c.args.part.now in
    let before = world_of g.Q.EventQueue.set c.loop.part in
    let after = world_of g.Q.EventQueue.set c.advance.new.part in
    let over = subst (λ (b : Bool). OnFalse b (NoneIsBelow before.pending bound)) c.if-branch.false c.in_ok-advance.ensures.over in
    let same = subst (λ (b : Bool). OnFalse b (after ≡ before)) c.if-branch.false c.in_ok-advance.ensures.same in
    let none = subst (λ (b : Bool). OnFalse b (c.advance.new.out ≡ c.loop.made)) c.if-branch.false c.in_ok-advance.ensures.none in
    let window : IsWindowSoFar s bound opened after c.advance.new.out =
    subst (λ v. IsWindowSoFar s bound opened v c.advance.new.out) (sym same) (subst (IsWindowSoFar s bound opened before) (sym none) c.loop.invariant.window) in
    window_over s bound opened after c.advance.new.out window (subst (λ v. NoneIsBelow v.pending bound) (sym same) over)

pub returns-clause-consistent : goal.returns-clause-consistent
returns-clause-consistent g c =
    let s = c.args.setting.now.cluster.scenario.now in
    let before = world_of g.Q.EventQueue.set c.loop.part in
    let after = world_of g.Q.EventQueue.set c.advance.new.part in
    let same = subst (λ (b : Bool). OnFalse b (after ≡ before)) c.if-branch.false c.in_ok-advance.ensures.same in
    subst (IsConsistentPart s) (sym same)
    (window_consistent s c.args.setting.now.bound (world_of g.Q.EventQueue.set c.args.part.now) before c.loop.made c.loop.invariant.window c.requires.sound c.requires.in_time c.requires.consistent)

pub returns-clause-among : goal.returns-clause-among
returns-clause-among g c =
    let s = c.args.setting.now.cluster.scenario.now in
    let none = subst (λ (b : Bool). OnFalse b (c.advance.new.out ≡ c.loop.made)) c.if-branch.false c.in_ok-advance.ensures.none in
    subst (λ (out : Effects). All (λ (e : Event). IsAmongMembers s e.key e.content) out.events.items) (sym none)
    (window_among s c.args.setting.now.bound (world_of g.Q.EventQueue.set c.args.part.now) (world_of g.Q.EventQueue.set c.loop.part) c.loop.made c.loop.invariant.window c.requires.sound c.requires.in_time
    c.requires.consistent)

pub returns-clause-far : goal.returns-clause-far
returns-clause-far g c =
    let s = c.args.setting.now.cluster.scenario.now in
    let opened = world_of g.Q.EventQueue.set c.args.part.now in
    let none = subst (λ (b : Bool). OnFalse b (c.advance.new.out ≡ c.loop.made)) c.if-branch.false c.in_ok-advance.ensures.none in
    subst (λ (out : Effects). TakeTheirLinks s opened out.events.items) (sym none)
    (window_far s c.args.setting.now.bound opened (world_of g.Q.EventQueue.set c.loop.part) c.loop.made c.loop.invariant.window c.requires.sound)

pub returns-in_err-advance-clause-overflow : goal.returns-in_err-advance-clause-overflow
returns-in_err-advance-clause-overflow g c = λ overflow.
    window_wears c.args.setting.now.cluster.scenario.now c.args.setting.now.bound (world_of g.Q.EventQueue.set c.args.part.now) (world_of g.Q.EventQueue.set c.loop.part) c.loop.made c.loop.invariant.window
    (c.in_err-advance.ensures.overflow (search rules))
