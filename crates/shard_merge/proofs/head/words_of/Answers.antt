use Rattle.std.proofs.Common.{◌∙◌, lit<}
use Rattle.std.proofs.lemmas.Iterator.Consumers.{YieldsList-end}
use Rattle.std.proofs.lemmas.Iterator.Splits.{YieldsList-from_str_split}
use Rattle.shard_merge.proofs.head.words_of.Goals as goal

pub returns-clause-all : goal.returns-clause-all
returns-clause-all c =
    let words = c.args.words.now in
    let items = YieldsList-from_str_split {s = c.into_iter-word-iterator.result} 32 words (lit< tt) (cc) (cc) (cc) in
    let all = YieldsList-end items c.loop-word.yielded _ c.loop-word.yielded_by _ _ c.in-None.is c.next.ensures.steps in
    c.loop-word.invariant ∙ all.0
