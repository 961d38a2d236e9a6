use Rattle.std.proofs.Common.{◌≡◌, List, ℕ, Bor, map}
use Rattle.shard_merge.proofs.head.words_of.Given as goal

abbrev pub invariant-loop-word : goal.invariant-loop-word
invariant-loop-word l = map (λ (word : Bor (List ℕ)). word.now) l.all.items ≡ map (λ (word : Bor (List ℕ)). word.now) l.yielded
