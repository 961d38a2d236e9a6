use Rattle.std.proofs.Common.{take, map, List, ℕ, Bor}
use Rattle.sweep_plan.specs.Asked.{AreSweptKeys}
use Rattle.sweep_plan.proofs.plan.read_swept_keys.Given as goal

abbrev pub invariant-loop-word : goal.invariant-loop-word
invariant-loop-word l = AreSweptKeys (map (λ (word : Bor (List ℕ)). word.now) (take l.word-index l.words)) l.swept_keys.items
