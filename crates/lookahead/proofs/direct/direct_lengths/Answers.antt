use Rattle.std.proofs.Common.{◌≡◌, ◌+◌, sym, subst, arith}
use Rattle.scenario.specs.Setup.{member_count}
use Rattle.lookahead.specs.Between.{part_number}
use Rattle.lookahead.specs.Direct.{AreDirectUpTo}
use Rattle.lookahead.proofs.Linking.{none_taken, twin_sender}
use Rattle.lookahead.proofs.direct.direct_lengths.Goals as goal
use Rattle.lookahead.proofs.direct.direct_lengths.Goals.{then-not-twins-from, else-not-twins-from}

pub loop-from-init : goal.loop-from-init
loop-from-init c = λ s belong. none_taken c.args.division.now.parts s (part_number c.args.division.now) c.in_ok-lengths.lengths c.in_ok-lengths.ensures

pub loop-from-preserved : goal.loop-from-preserved
loop-from-preserved c = λ s belong.
    let deal = c.args.division.now in
    let from = c.loop-from.from in
    let so_far = c.loop-from.invariant s belong in
    elim c.if-not-twins-from.branch [
      | then-not-twins-from w ↦ subst (AreDirectUpTo deal.parts s (part_number deal) (from + 1) 0) (sym w.lengths-is) (w.take_links_from.ensures s belong so_far)
      | else-not-twins-from w ↦ (
          let twin = belong.twins from w.if-not-twins-from.false in
          subst (AreDirectUpTo deal.parts s (part_number deal) (from + 1) 0) (sym w.lengths-is) (twin_sender deal.parts s (part_number deal) from twin.0 c.loop-from.lengths twin.1 twin.2 twin.3 so_far))
    ]

pub returns : goal.returns
returns c = λ s belong.
    let all : c.loop-from.from ≡ member_count s = omega (arith, belong.one_each) in
    subst (λ n. AreDirectUpTo c.args.division.now.parts s (part_number c.args.division.now) n 0 c.loop-from.lengths) all (c.loop-from.invariant s belong)
