use Rattle.std.proofs.Common.{nat_eq, ap, ◌∙◌, sym, subst}
use Rattle.std.specs.FinMap.{empty}
use Rattle.base.specs.World.{World}
use Rattle.member.specs.declared.event_kind.EventKind.{EventKind}
use Rattle.member.specs.State.{State}
use Rattle.worker_queue.proofs.Contents.{contents_by-empty}
use Rattle.windows.specs.Admitting.{with_member}
use Rattle.windows.specs.WorldOf.{contents_in, content_of}
use Rattle.windows.specs.Window.{IsConsistentPart, is_own}
use Rattle.windows.proofs.Admitting.{with_pending}
use Rattle.test_inside.proofs.Opened.{alone_consistent, alone_single, none_from_below}
use Rattle.test_inside.proofs.part_tests.opened.Goals as goal

pub admit-requires-clause-earlier : goal.admit-requires-clause-earlier
admit-requires-clause-earlier g c =
    none_from_below _ c.args.number (ap (λ (w : World State EventKind). w.pending) c.new-part.ensures.world ∙ ap contents_in c.requires.none ∙ contents_by-empty content_of)

pub returns-clause-consistent : goal.returns-clause-consistent
returns-clause-consistent g c =
    let s = c.args.scenario.now in
    subst (IsConsistentPart s)
    (sym (c.in_ok-admit.ensures.world ∙ ap (with_member s c.args.number) (c.new-part.ensures.world ∙ with_pending empty _ _ (ap contents_in c.requires.none ∙ contents_by-empty content_of))))
    (alone_consistent s c.args.number c.requires.there c.end.ensures.sound)

pub returns-clause-single : goal.returns-clause-single
returns-clause-single g c q =
    let s = c.args.scenario.now in
    ap (λ (w : World State EventKind). is_own w q) (c.in_ok-admit.ensures.world ∙ ap (with_member s c.args.number) (c.new-part.ensures.world ∙ with_pending empty _ _ (ap contents_in c.requires.none ∙ contents_by-empty content_of)))
    ∙ alone_single s c.args.number c.requires.there c.end.ensures.sound q ∙ ap (nat_eq q) (sym (c.in_ok-admit.ensures.number ∙ c.new-part.ensures.number))
