use Rattle.std.proofs.Common.{◌≡◌, ◌++◌, drop}
use Rattle.member.specs.Riding.{intents_that_fit}
use Rattle.member.proofs.riding.intents_that_fit.Given as goal

abbrev pub invariant-loop-intent : goal.invariant-loop-intent
invariant-loop-intent l = intents_that_fit l.scenario l.room l.intents ≡ l.fitting.items ++ intents_that_fit l.scenario l.left (drop l.intent-index l.intents)
