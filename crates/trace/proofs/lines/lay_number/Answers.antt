use Rattle.std.proofs.Common.{◌≤◌, length, arith}
use Rattle.std.specs.Fmt.{decimal}
use Rattle.std.proofs.lemmas.Fmt.{length-decimal-le}
use Rattle.trace.proofs.lines.lay_number.Goals as goal

pub write_digits-requires : goal.write_digits-requires
write_digits-requires c =
    let short : length (decimal c.args.number) ≤ 20 = length-decimal-le 20 c.args.number (omega arith) (omega (arith, c.ranges.number.fits)) c.ranges.number.fits in
    (omega (arith, short, c.requires.0, c.lay_byte-end.ensures.start), omega (arith, c.requires.1, c.lay_byte-end.auto.room, c.lay_byte-end.ensures.start))

pub returns-clause-start : goal.returns-clause-start
returns-clause-start c =
    let short : length (decimal c.args.number) ≤ 20 = length-decimal-le 20 c.args.number (omega arith) (omega (arith, c.ranges.number.fits)) c.ranges.number.fits in
    (omega (arith, c.write_digits.ensures.start, c.lay_byte-end.ensures.start), omega (arith, short, c.write_digits.ensures.start, c.lay_byte-end.ensures.start))
