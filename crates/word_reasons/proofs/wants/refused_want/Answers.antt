-- the word stands among those that were given
use Rattle.std.proofs.Common.{ap, is_some}
use Rattle.std.proofs.lemmas.List.Elements.{Contains-get_or}
use Rattle.word_reasons.proofs.wants.refused_want.Goals as goal

pub returns-in-None : goal.returns-in-None
returns-in-None c =
    (Contains-get_or c.args.words.now c.loop-word.word-index _ c.loop-word-test.true, c.read.ensures.none (ap is_some c.in-None.is))
