use Rattle.std.proofs.Common.{◌≡◌}
use Rattle.streams.specs.Draw.{words_of, rest_after}
use Rattle.drive_process.proofs.words.pass_words.Given as goal

-- so many words are passed
abbrev pub invariant-loop-passed : goal.invariant-loop-passed
invariant-loop-passed l = words_of l.stream ≡ rest_after l._passed (words_of l.fn.stream)
