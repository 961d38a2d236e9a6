use Rattle.std.proofs.Common.{append_assoc}
use Rattle.meaning_text.specs.Lines.{news_words}
use Rattle.meaning_text.proofs.times.push_news_words.Goals as goal

pub returns : goal.returns
unfolding news_words
returns c = simp append_assoc c.writeln.ensures.bytes
