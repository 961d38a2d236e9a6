use Rattle.std.proofs.Common.{ℕ, List, subst}
use Rattle.toml.specs.Data.{string}
use Rattle.written_values.specs.Values.{SaysShareIn}
use Rattle.written_values.proofs.shares.text_of_parts.Goals as goal

pub returns : goal.returns
returns c = subst (λ (w : List ℕ). SaysShareIn (string w) c.word_of_parts.result) c.as_str.ensures.value c.word_of_parts.ensures
