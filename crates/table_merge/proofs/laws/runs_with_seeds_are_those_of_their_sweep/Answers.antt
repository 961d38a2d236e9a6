use Rattle.table_merge.proofs.Parts.{made_part}
use Rattle.table_merge.proofs.laws.runs_with_seeds_are_those_of_their_sweep.Goals as goal

pub returns : goal.returns
returns c tree sweep all r made is_with low ordered high are = made_part tree sweep all r made is_with low ordered high are
