-- What is wrong with words.
use Rattle.std.specs.Prelude.{List, Option}
use Rattle.clap.specs.Words.{Row, Text}
use Rattle.word_reasons.specs.Found.{IsReasonMet}
use Rattle.word_reasons.specs.declared.words.WordsFault.{WordsFault}
use Rattle.word_reasons.specs.declared.words.WordsFault.TheVariants.{Refused, Taken}

-- what is said of words of which `clap` met this command: its own text, or a reason that is true of them
abbrev pub IsFaultOf : Option (Text × List Row) → WordsFault → Type 0
IsFaultOf met (Refused error) = Unit {0}
IsFaultOf met (Taken reason) = IsReasonMet met reason
