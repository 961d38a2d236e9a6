use Rattle.lengths.proofs.Parts.{same_length}
use Rattle.lengths.proofs.laws.a_word_is_one_length.Goals as goal

pub returns : goal.returns
returns c = same_length
