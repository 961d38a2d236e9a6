use Rattle.std.proofs.Common.{ℕ, List, subst}
use Rattle.toml.specs.Data.{string}
use Rattle.written_values.specs.Values.{SaysTicksIn}
use Rattle.written_values.proofs.ticks.word_within.Goals as goal

pub returns : goal.returns
returns c = subst (λ (w : List ℕ). SaysTicksIn c.args.tick c.args.least c.args.most (string w) c.length_within.result) c.as_str.ensures.value c.length_within.ensures
