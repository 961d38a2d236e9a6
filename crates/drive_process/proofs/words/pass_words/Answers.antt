use Rattle.std.proofs.Common.{ap, ◌∙◌}
use Rattle.streams.specs.Draw.{words_of, rest_after}
use Rattle.streams.proofs.PlaceLemmas.{rest-rest, rest_after-zero}
use Rattle.drive_process.proofs.words.pass_words.Goals as goal

pub loop-passed-init : goal.loop-passed-init
loop-passed-init c = rest_after-zero (words_of c.args.stream.now)

pub loop-passed-preserved : goal.loop-passed-preserved
loop-passed-preserved c = c.pass_word.ensures ∙ ap (rest_after 1) c.loop-passed.invariant ∙ rest-rest 1 c.loop-passed._passed (words_of c.args.stream.now)
