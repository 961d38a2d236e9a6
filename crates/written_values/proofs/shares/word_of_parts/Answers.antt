use Rattle.std.proofs.Common.{refl, arith}
use Rattle.written_values.proofs.Unique.{none_shared}
use Rattle.written_values.proofs.shares.word_of_parts.Goals as goal

pub returns-else-parts-le-WHOLE : goal.returns-else-parts-le-WHOLE
returns-else-parts-le-WHOLE c =
    let is = c.in-Some.ensures.some in
    ((c.in-Some.parts, is), λ number other low high. none_shared c.args.word.now c.in-Some.parts is (λ within. omega (arith, c.if-parts-le-WHOLE.false, within)) number other high)

pub returns-in-None : goal.returns-in-None
returns-in-None c = λ share. c.in-None.ensures.none refl share.0 share.1
