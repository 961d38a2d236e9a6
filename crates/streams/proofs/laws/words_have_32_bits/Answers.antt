use Rattle.streams.proofs.RangeLemmas.{words_of_fit, rest_fits}
use Rattle.streams.proofs.laws.words_have_32_bits.Goals as goal

pub returns-clause-streams : goal.returns-clause-streams
returns-clause-streams c = words_of_fit

pub returns-clause-rests : goal.returns-clause-rests
returns-clause-rests c = rest_fits
