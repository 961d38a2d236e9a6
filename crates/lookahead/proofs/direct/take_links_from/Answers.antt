use Rattle.std.proofs.Common.{◌≡◌, ◌+◌, ◌<◌, sym, subst, arith}
use Rattle.scenario.specs.Setup.{member_count}
use Rattle.lookahead.specs.Between.{part_number}
use Rattle.lookahead.specs.Direct.{AreDirectUpTo}
use Rattle.lookahead.proofs.Linking.{next_sender, twin_receiver}
use Rattle.lookahead.proofs.direct.take_links_from.Goals as goal
use Rattle.lookahead.proofs.direct.take_links_from.Goals.{then-not-twins-to, else-not-twins-to}

pub loop-to-preserved : goal.loop-to-preserved
loop-to-preserved c = λ s belong are.
    let deal = c.args.division.now in
    let from = c.args.from in
    let to = c.loop-to.to in
    let so_far = c.loop-to.invariant s belong are in
    elim c.if-not-twins-to.branch [
      | then-not-twins-to w ↦ subst (AreDirectUpTo deal.parts s (part_number deal) from (to + 1)) (sym w.lengths-is) (w.take_link.ensures s belong.serve belong.one_each so_far)
      | else-not-twins-to w ↦ (
          let twin = belong.twins to w.if-not-twins-to.false in
          let here : to < member_count s = omega (arith, c.members-to-end.ensures, c.loop-to-test.true, belong.one_each) in
          subst (AreDirectUpTo deal.parts s (part_number deal) from (to + 1)) (sym w.lengths-is)
          (twin_receiver deal.parts s c.requires.parts (part_number deal) from to c.loop-to.lengths so_far twin.0 twin.1 here twin.2 twin.3))
    ]

pub returns : goal.returns
returns c = λ s belong are.
    let all : c.loop-to.to ≡ member_count s = omega (arith, belong.one_each) in
    next_sender c.args.division.now.parts s (part_number c.args.division.now) c.args.from c.loop-to.to c.loop-to.lengths all (c.loop-to.invariant s belong are)
