use Rattle.std.proofs.Common.{ap, ◌∙◌, refl, rules}
use Rattle.windows.specs.WorldOf.{world_of, contents_in, content_of}
use Rattle.worker_queue.proofs.Contents.{first_content, none_below, contents_by-remove}
use Rattle.windows.proofs.Consistent.{event_here, holds_members, new_made}
use Rattle.windows.proofs.Advancing.{advanced, event_wears}
use Rattle.windows.proofs.steps.advance.Goals as goal

pub returns-in-None-clause-over : goal.returns-in-None-clause-over
returns-in-None-clause-over g c = none_below content_of (g.Q.EventQueue.set c.args.part.now.queue) c.args.setting.now.bound c.in-None.ensures.none

pub handle_taken-requires-clause-here : goal.handle_taken-requires-clause-here
handle_taken-requires-clause-here g c =
    let event = c.in-Some.event in
    let first = first_content content_of (g.Q.EventQueue.set c.args.part.now.queue) event.key event c.in-Some.ensures.first in
    event_here c.args.setting.now.cluster.scenario.now c.args.setting.now.cluster.links.now c.args.setting.now.bound event.key event.content c.requires.sound c.args.setting.now.cluster.fits c.requires.in_time c.in-Some.ensures.below
    (c.requires.consistent.events event.key event.content first.here)

pub handle_taken-requires-clause-known : goal.handle_taken-requires-clause-known
handle_taken-requires-clause-known g c = λ t here. holds_members c.args.setting.now.cluster.scenario.now c.in-Some.event.key.to t (c.requires.consistent.members c.in-Some.event.key.to t here).1

pub handle_taken-requires-clause-names : goal.handle_taken-requires-clause-names
handle_taken-requires-clause-names g c =
    let event = c.in-Some.event in
    let first = first_content content_of (g.Q.EventQueue.set c.args.part.now.queue) event.key event c.in-Some.ensures.first in
    (c.requires.consistent.events event.key event.content first.here).names

pub handle_taken-requires-clause-new : goal.handle_taken-requires-clause-new
handle_taken-requires-clause-new g c =
    let event = c.in-Some.event in
    let p = world_of g.Q.EventQueue.set c.args.part.now in
    let taken = ap contents_in c.in-Some.ensures.taken ∙ contents_by-remove content_of (g.Q.EventQueue.set c.args.part.now.queue) event.key in
    new_made c.args.setting.now.cluster.scenario.now c.requires.sound p event.key event.content _ _ taken refl c.requires.consistent

pub returns-clause-went : goal.returns-clause-went
returns-clause-went g c =
    let event = c.in-Some.event in
    let first = first_content content_of (g.Q.EventQueue.set c.args.part.now.queue) event.key event c.in-Some.ensures.first in
    let taken = ap contents_in c.in-Some.ensures.taken ∙ contents_by-remove content_of (g.Q.EventQueue.set c.args.part.now.queue) event.key in
    advanced c.args.setting.now.cluster.scenario.now c.args.setting.now.bound (world_of g.Q.EventQueue.set c.args.part.now) event first c.in-Some.ensures.below _ _ _ _ taken c.in_ok-handle_taken.ensures.ok

pub returns-in_err-handle_taken-clause-overflow : goal.returns-in_err-handle_taken-clause-overflow
returns-in_err-handle_taken-clause-overflow g c =
    let event = c.in-Some.event in
    let first = first_content content_of (g.Q.EventQueue.set c.args.part.now.queue) event.key event c.in-Some.ensures.first in
    λ overflow. event_wears c.args.setting.now.cluster.scenario.now c.args.setting.now.bound (world_of g.Q.EventQueue.set c.args.part.now) event first c.in-Some.ensures.below (c.in_err-handle_taken.ensures.overflow (search rules))
