use Rattle.lengths.proofs.Parts.{same_share}
use Rattle.lengths.proofs.laws.a_word_is_one_share.Goals as goal

pub returns : goal.returns
returns c = same_share
