use Rattle.std.proofs.Common.{◌<◌, ◌++◌, eqb, not, vec_len, length, map, All, count_by, ap, ◌∙◌, sym, subst}
use Rattle.std.specs.List.{slice_get, flat_map}
use Rattle.std.proofs.lemmas.List.Elements.{All-from_recursion}
use Rattle.base.specs.Rising.{IsRising, IsPlaceBefore, AreNew}
use Rattle.member.specs.Places.{place_of}
use Rattle.member.specs.declared.event.Event.{Event}
use Rattle.member.specs.StateOf.{pair_of}
use Rattle.windows.specs.Parts.{for_own, is_in}
use Rattle.windows.specs.WorldOf.{world_of}
use Rattle.lookahead.specs.Between.{part_number}
use Rattle.turns.specs.Parts.{IsLeastMoment, IsInRowOrder, HaveCome, HaveTheirMembers}
use Rattle.turns.proofs.RowOrders.{when_true, one_alone, windows_rise}
use Rattle.turns.proofs.After.{new_to_parts, members_after, named_out, count_after}
use Rattle.turns.proofs.turns.exchanged.Goals as goal

pub in_row_order-requires-clause-already : goal.in_row_order-requires-clause-already
in_row_order-requires-clause-already g c = λ loans lives ordered.
    let came = c.requires.came in
    let none = sym c.deref.ensures.value ∙ when_true c.stand_in_order-ordered.result ordered c.stand_in_order-ordered.ensures.none in
    let one = subst (λ l. count_by (λ d. not (eqb (vec_len d.rows) 0)) l < 2) c.deref-2.ensures.value (when_true c.stand_in_order-ordered.result ordered c.stand_in_order-ordered.ensures.one) in
    subst (λ l. IsRising IsPlaceBefore (map place_of l)) (sym (c.in_ok-gathered.ensures.rows ∙ ap (λ l. l ++ flat_map (λ d. d.rows.items) c.args.done.items) none))
    (one_alone c.args.done.items one (windows_rise g.Q.EventQueue.set came.setup came.sound came.before c.args.done.items came.windows))

pub deliver-requires-clause-count : goal.deliver-requires-clause-count
deliver-requires-clause-count g c =
    let came = c.requires.came in
    ap length c.in_ok-gathered.ensures.parts
    ∙ count_after g.Q.EventQueue.set came.setup came.sound c.args.division.now came.before c.args.done.items came.divides came.ready came.windows

pub deliver-requires-clause-named : goal.deliver-requires-clause-named
deliver-requires-clause-named g c =
    let came = c.requires.came in
    subst (All (λ (e : Event). e.key.to < length c.args.division.now.part_of)) (sym c.in_ok-gathered.ensures.out)
    (All-from_recursion (λ (e : Event). e.key.to < length c.args.division.now.part_of) _
    (named_out g.Q.EventQueue.set came.setup came.sound c.args.division.now came.before c.args.done.items came.divides came.ready came.windows))

pub deliver-requires-clause-members : goal.deliver-requires-clause-members
deliver-requires-clause-members g c =
    let came = c.requires.came in
    subst (HaveTheirMembers g.Q.EventQueue.set c.args.division.now) (sym c.in_ok-gathered.ensures.parts)
    (members_after g.Q.EventQueue.set came.setup came.sound c.args.division.now came.before c.args.done.items came.divides came.ready came.windows)

pub deliver-requires-clause-new : goal.deliver-requires-clause-new
deliver-requires-clause-new g c = λ i part here.
    let came = c.requires.came in
    subst (λ l. AreNew (world_of g.Q.EventQueue.set part).pending (for_own (is_in (part_number c.args.division.now) i) (map pair_of l))) (sym c.in_ok-gathered.ensures.out)
    (new_to_parts g.Q.EventQueue.set came.setup came.sound c.args.division.now came.before c.args.done.items came.divides came.ready came.windows
    i part (ap (λ l. slice_get l i) (sym c.in_ok-gathered.ensures.parts) ∙ here))

pub returns : goal.returns
returns g c =
    let set = g.Q.EventQueue.set in
    let division = part_number c.args.division.now in
    let after = c.deliver.new.parts.items in
    record {
      come =
          subst (λ l. HaveCome set division l after (map pair_of (flat_map (λ d. d.out.items) c.args.done.items))) c.in_ok-gathered.ensures.parts
          (subst (λ l. HaveCome set division c.in_ok-gathered.gathered.parts.items after (map pair_of l)) c.in_ok-gathered.ensures.out c.in_ok-deliver.ensures);
      sorted = c.in_ok-rows.rows.items;
      order = subst (λ l. IsInRowOrder l c.in_ok-rows.rows.items) c.in_ok-gathered.ensures.rows c.in_ok-rows.ensures;
      least = c.least_moment-first.result;
      first = subst (λ l. IsLeastMoment set l c.least_moment-first.result) c.deref-3.ensures.value c.least_moment-first.ensures;
      released_are = c.in_ok-split.ensures.before;
      kept_are = c.in_ok-split.ensures.others;
    }
