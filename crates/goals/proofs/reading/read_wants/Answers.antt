use Rattle.std.proofs.Common.{◌≡◌, ◌+◌, ◌++◌, ◌∷◌, [], ℕ, List, Bor, ap, is_some, map, rules, subst, sym, take}
use Rattle.goals.specs.Words.{AreWants}
use Rattle.goals.proofs.Pairs.{none_at, one_more}
use Rattle.goals.proofs.reading.read_wants.Goals as goal

pub loop-word-preserved : goal.loop-word-preserved
loop-word-preserved c =
    let wants = c.loop-word.wants.items in
    let pushed : c.push.new.self.items ≡ wants ++ c.in-Some.want ∷ [] = search rules in
    subst (AreWants (map (λ (word : Bor (List ℕ)). word.now) (take (c.loop-word.word-index + 1) c.args.words.now))) (sym pushed)
    (one_more c.args.words.now c.loop-word.word-index _ c.loop-word-test.true wants c.in-Some.want c.loop-word.invariant c.in-Some.ensures.some)

pub returns-in_default-clause-refused : goal.returns-in_default-clause-refused
returns-in_default-clause-refused c =
    none_at c.args.words.now c.loop-word.word-index _ c.loop-word-test.true (c.read.ensures.none (ap is_some c.in_default.is))
