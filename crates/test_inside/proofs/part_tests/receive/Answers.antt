use Rattle.std.proofs.Common.{◌∙◌, refl, sym}
use Rattle.windows.specs.WorldOf.{world_of}
use Rattle.test_inside.proofs.Opened.{received_consistent, if_received, if_single}
use Rattle.test_inside.proofs.part_tests.receive.Goals as goal

pub returns-clause-consistent : goal.returns-clause-consistent
returns-clause-consistent g c =
    let s = c.args.scenario.now in
    let p = world_of g.Q.EventQueue.set c.args.part.now in
    if_received s c.receive.result _ _ c.receive.ensures.world
    (received_consistent s p c.args.event.key c.args.event.content c.requires.consistent c.requires.among
    (c.requires.single c.args.event.key.to ∙ sym c.is_for.ensures ∙ c.if-not-is_for.false) (c.requires.single c.args.event.key.from ∙ sym c.is_of.ensures ∙ c.if-is_of.false))

pub returns-clause-single : goal.returns-clause-single
returns-clause-single g c =
    if_single c.receive.result (world_of g.Q.EventQueue.set c.args.part.now) (world_of g.Q.EventQueue.set c.receive.new.self) _ c.args.part.now.number c.receive.new.self.number refl
    c.receive.ensures.world c.receive.ensures.number c.requires.single
