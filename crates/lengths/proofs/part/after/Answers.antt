use Rattle.std.proofs.Common.{◌+◌, inl, inr, refl, arith}
use Rattle.lengths.proofs.Parts.{parts_begin, parts_behind}
use Rattle.lengths.proofs.part.after.Goals as goal

pub returns-in-Some-clause-sound : goal.returns-in-Some-clause-sound
returns-in-Some-clause-sound c smaller others is =
    (c.in-Some.read.total + others, inr (c.in-Some.read.rest.now, c.in-Some.read.total, others, c.in-Some.ensures.some, is, refl), omega arith)

pub returns-in-Some-clause-whole : goal.returns-in-Some-clause-whole
returns-in-Some-clause-whole c smaller all small is =
    let behind = parts_behind c.args.unit smaller c.args.text.now c.in-Some.read.rest.now c.in-Some.read.total all small c.in-Some.ensures.some c.in-Some.ensures.ends is in
    let sum = behind.2 in
    (behind.0, behind.1, omega arith)

pub returns-in-None-clause-whole : goal.returns-in-None-clause-whole
returns-in-None-clause-whole c smaller all small (inl is) = (all, is, refl)
returns-in-None-clause-whole c smaller all small (inr (rest, first, others, part, more, sum)) =
    absurd (c.in-None.ensures.none refl rest first (parts_begin smaller rest others more) part)
