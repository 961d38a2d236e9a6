use Rattle.std.proofs.Common.{rules}
use Rattle.sweep_plan.specs.SetKeys.{entry_keys}
use Rattle.sweep_plan.proofs.entry_keys.entry_keys.Goals as goal

pub returns : goal.returns
unfolding entry_keys
returns c = search rules
