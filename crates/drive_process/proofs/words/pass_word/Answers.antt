use Rattle.std.proofs.Common.{◌≤◌, ◌*◌, ◌-◌, ◌%◌, ◌^◌, ℕ, ap, ◌∙◌, arith}
use Rattle.streams.specs.Draw.{words_of}
use Rattle.streams.proofs.FractionLemmas.{below_one_word}
use Rattle.drive_process.proofs.words.pass_word.Goals as goal

-- twice a number is even, also past so many of 2^32
pub even : (n : ℕ) → n * 2 % 2 ^ 32 ≤ 2 ^ 32 - 2
even n = omega arith

pub returns : goal.returns
returns c = ap (λ p. p.1) c.below.ensures.drawn ∙ below_one_word (words_of c.args.stream.now) 2 (omega arith) (even (words_of c.args.stream.now 0))
