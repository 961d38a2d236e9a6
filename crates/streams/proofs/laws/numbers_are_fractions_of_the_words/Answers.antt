use Rattle.streams.proofs.FractionLemmas.{below_value, below_one_word, below_two_words}
use Rattle.streams.proofs.laws.numbers_are_fractions_of_the_words.Goals as goal

pub returns-clause-value : goal.returns-clause-value
returns-clause-value c = below_value

pub returns-clause-one_word : goal.returns-clause-one_word
returns-clause-one_word c = below_one_word

pub returns-clause-two_words : goal.returns-clause-two_words
returns-clause-two_words c = below_two_words
