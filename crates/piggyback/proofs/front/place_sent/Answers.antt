use Rattle.std.proofs.Common.{rules}
use Rattle.piggyback.proofs.Block.{moved_block}
use Rattle.piggyback.proofs.front.place_sent.Goals as goal

pub returns : goal.returns
returns c =
    let called = c.passed_behind-before in
    moved_block c.args.entries.now c.args.sent.now called.result c.index-sent-0.result c.requires.ordered (search rules) called.ensures.within c.index-sent-0.is called.ensures.passed c.rotate_left.new.self c.merge-2.new.entries c.rotate_left.ensures.after c.merge-2.ensures
